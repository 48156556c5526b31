use Rattle.profile_code.proofs.global_effects.GlobalPlaces.of.Goals as goal

pub returns : goal.returns
returns c = record {
  exact = λ i. record {
    uphillcost = c.last.ensures.value i;
    downhillcost = c.last-2.ensures.value i;
    uphillcutoff = c.last-3.ensures.value i;
    downhillcutoff = c.last-4.ensures.value i;
    elevationpenaltybuffer = c.last-5.ensures.value i;
    elevationmaxbuffer = c.last-6.ensures.value i;
    elevationbufferreduce = c.last-7.ensures.value i;
  };
}
