-- What is found as a reach begins.
use Rattle.std.proofs.Common.{◌≡◌, ◌≢◌, ℕ, inl, inr, Bool, true, false, List, [], Some, None, sym, ap, ◌∙◌, subst, arith, Vec, Global}
use Rattle.std.specs.List.{slice_get}
use Rattle.cost_model.specs.declared.parts.Carry.{Carry}
use Rattle.space_search.specs.View.{Reached}
use Rattle.bike_space.specs.Lawful.{IsTask}
use Rattle.bike_space.specs.Tasks.{Task}
use Rattle.cost_table.specs.Costs.{IsLeastCost, Quest, leg_to}
use Rattle.cost_table.specs.Found.{AreAwaited, BeginsBy, IsNew, PutsDown, cost_at, waits}
use Rattle.cost_table.specs.Reaches.{IsFoundAfter}
use Rattle.cost_table.specs.Waiting.{NoneWaits}
use Rattle.cost_table.specs.declared.found.Found.{Found}
use Rattle.cost_table.specs.declared.want.Want.{Want}
use Rattle.cost_table.specs.declared.want.Want.TheVariants.{Nodes, Within}
use Rattle.cost_table.proofs.ArriveLemmas.{home-least, quest_on}
use Rattle.cost_table.proofs.FoundLemmas.{awaited-named, named-awaits, named-costs, puts-either, source-away}
use Rattle.cost_table.proofs.NoteLemmas.{IsKnown}

module _ (task : Task) (lawful : IsTask task) (unused : (link : ℕ) → task.used link ≡ false) (limit : ℕ)
    (before after : Found) (new : IsNew before)
    (puts : PutsDown task.leg.start 0 (cost_at before) (cost_at after)) where
  -- only the node that is left has a cost
  begun-alone : (node cost : ℕ) → cost_at after node ≡ Some cost → (node ≡ task.leg.start) × (cost ≡ 0)
  begun-alone node cost is =
      elim (puts-either task.leg.start 0 (cost_at before) (cost_at after) puts node cost is) [
        | inl was ↦ let none = new.costs node in let never : ⊥ = cc in absurd never
        | inr it ↦ (it.0, it.2)
      ]

  -- it is least
  begun-sound :
      (want : Want) (node cost : ℕ) → cost_at after node ≡ Some cost →
      IsLeastCost (leg_to (quest_on task lawful unused want limit) node) cost
  begun-sound want node cost is =
      let it = begun-alone node cost is in
      let quest : Quest = quest_on task lawful unused want limit in
      subst (λ (n : ℕ). IsLeastCost (leg_to quest n) cost) (sym it.0)
      (subst (λ (c : ℕ). IsLeastCost (leg_to quest task.leg.start) c) (sym it.1) (home-least task lawful unused want limit))

  -- it has cost 0
  begun-home : cost_at after task.leg.start ≡ Some 0
  begun-home = puts.new (new.costs task.leg.start)

  -- no label is settled
  no-label : (settled : List (Reached Carry)) → settled ≡ [] → (place : ℕ) (label : Reached Carry) →
      slice_get settled place ≡ Some label → ⊥
  no-label settled none place label at =
      let never : slice_get [] place ≡ Some label = ap (λ (l : List (Reached Carry)). slice_get l place) (sym none) ∙ at in
      cc

  module _ (settled : List (Reached Carry)) (none : settled ≡ []) where
    -- where nodes are named
    begun-named :
        (nodes : Vec ℕ Global) (done : Bool) → AreAwaited nodes.items task.leg.start (waits after) → NoneWaits (waits after) done →
        IsKnown task (quest_on task lawful unused (Nodes nodes) limit) after settled done
    begun-named nodes true await wait =
        named-costs (quest_on task lawful unused (Nodes nodes) limit) nodes.items after (begun-sound (Nodes nodes))
        (λ node there no_cost.
        let differ : node ≢ task.leg.start = λ same.
        let home = begun-home in
        let here : cost_at after task.leg.start ≡ None = subst (λ (n : ℕ). cost_at after n ≡ None) same no_cost in
        let never : ⊥ = cc in
        never in
        let waiting = named-awaits nodes.items task.leg.start (waits after) await node there differ in
        let not_waiting = wait node in
        let never : ⊥ = cc in
        absurd never)
    begun-named nodes false await wait = record {
      sound = begun-sound (Nodes nodes);
      home = begun-home;
      by_want = record {
        named = awaited-named nodes.items task.leg.start (waits after) await;
        rest = λ node there no_cost.
            named-awaits nodes.items task.leg.start (waits after) await node there
            (λ same.
            let home = begun-home in
            let here : cost_at after task.leg.start ≡ None = subst (λ (n : ℕ). cost_at after n ≡ None) same no_cost in
            let never : ⊥ = cc in
            never);
        away = source-away nodes.items task.leg.start (waits after) await;
        some = wait;
        unseen = λ place label at. absurd (no-label settled none place label at);
      };
    }

    -- where all within a cost are asked for
    begun-within :
        (most : ℕ) → IsFoundAfter task (quest_on task lawful unused (Within most) limit) after settled
    begun-within most = record {
      sound = begun-sound (Within most);
      home = begun-home;
      by_want = record {
        low = λ node cost is. let it = begun-alone node cost is in omega (arith, it.1);
        near = λ place label at. absurd (no-label settled none place label at);
        seen = λ place label at. absurd (no-label settled none place label at);
      };
    }

    -- so it is by whatever is asked
    pub begun-known :
        (want : Want) (done : Bool) → BeginsBy want task.leg.start after done →
        IsKnown task (quest_on task lawful unused want limit) after settled done
    begun-known (Nodes nodes) done is = begun-named nodes done is.0 is.1
    begun-known (Within most) done is =
        subst (λ (d : Bool). IsKnown task (quest_on task lawful unused (Within most) limit) after settled d) (sym is)
        (begun-within most)
