use Rattle.made_routes.proofs.MapLemmas.{read-as-grids}
use Rattle.made_routes.proofs.law.grids_are_maps.Goals as goal

pub returns : goal.returns
returns c =
    record {
      exact = read-as-grids
          (record {
            readings = record {
              found = c.one_reading.ensures.found;
              only = c.one_reading.ensures.only;
              grows = c.fixed_steps.ensures.grows;
              stays = c.lasting_faults.ensures.stays;
            };
            members = c.entries_of_a_tree.ensures.members;
            items = c.entries_of_a_tree.ensures.items;
          });
    }
