use Rattle.std.proofs.Common.{◌+◌, length, ap, subst, sym}
use Rattle.bike_space.specs.Kept.{task_of}
use Rattle.bike_space.specs.Openings.{IsOpened, OpensOn}
use Rattle.bike_space.specs.Tasks.{rules_of}
use Rattle.item_list.specs.Turns.{Says}
use Rattle.item_list.specs.declared.turn.Turn.TheVariants.{More}
use Rattle.route_certificate.specs.Provings.{StepsProving}
use Rattle.route_certificate.specs.declared.proving.Proving.{Proving}
use Rattle.route_certificate.specs.declared.proving.Stage.TheVariants.{Opening}
use Rattle.route_certificate.proofs.ProvingLemmas.{opening-done, opening-on}
use Rattle.route_certificate.proofs.proving_steps.open_on.Goals.{in-More, in-Done}
use Rattle.route_certificate.proofs.proving_steps.open_on.Goals as goal

pub returns : goal.returns
returns g c = record {
  steps = λ bound leg most quota some is.
      let terrain = g.G.TerrainOf.terrain c.args.terrain in
      let opening = c.args.opening in
      let limit = c.args.limit in
      let counted = c.args.counted in
      let before : Proving = record { stage = Opening opening; limit = limit; counted = counted } in
      let steps = c.in_ok-opening.ensures.steps in
      elim c.match-branch-2.branch [
        | in-More w ↦
            let opens = subst (Says (OpensOn terrain opening) (IsOpened terrain opening)) w.in-More.is steps in
            subst (λ s. StepsProving terrain bound leg most quota before
            (record { counted = 1; turn = More (record { stage = s; limit = limit; counted = counted + 1 }) })) (sym w.stage-is)
            (opening-on terrain bound leg most quota opening limit counted is some w.in-More.opening opens)
        | in-Done w ↦
            let opened = subst (Says (OpensOn terrain opening) (IsOpened terrain opening)) w.in-Done.is steps in
            let kept = w.in-Done.kept in
            let made = w.new.ensures in
            subst (λ s. StepsProving terrain bound leg most quota before
            (record { counted = 1; turn = More (record { stage = s; limit = limit; counted = counted + 1 }) })) (sym w.stage-is)
            (opening-done terrain bound leg most quota opening limit counted is some kept opened w.new.result
            (made.of (rules_of (task_of terrain kept))) made.limit (ap length made.none))
      ];
}
