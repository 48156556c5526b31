use Rattle.profile_code.proofs.way_effects.WayPlaces.of.Goals as goal

pub returns : goal.returns
returns c = record {
  exact = λ i. record {
    costfactor = c.last.ensures.value i;
    turncost = c.last-2.ensures.value i;
    initialcost = c.last-3.ensures.value i;
    initialclassifier = c.last-4.ensures.value i;
    nodeaccessgranted = c.last-5.ensures.value i;
    uphillcostfactor = c.last-6.ensures.value i;
    downhillcostfactor = c.last-7.ensures.value i;
  };
}
