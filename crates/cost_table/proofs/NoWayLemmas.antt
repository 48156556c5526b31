-- The end of a search that finds no way: all that is asked is known.
use Rattle.std.proofs.Common.{◌≡◌, ℕ, ◌≤◌, inl, inr, false, List, length, Some, None, subst, arith, sym, refl, Vec, Global}
use Rattle.std.specs.List.{slice_get}
use Rattle.std.proofs.lemmas.Option.{slice_get_within}
use Rattle.cost_model.specs.declared.parts.Carry.{Carry}
use Rattle.space_search.specs.Turns.{IsClosedAndOrdered}
use Rattle.space_search.specs.View.{KeepsPlaces, Reached}
use Rattle.bike_space.specs.Lawful.{IsTask}
use Rattle.bike_space.specs.Tasks.{Task, rules_of}
use Rattle.bike_space.proofs.CallerLemmas.{walk-some}
use Rattle.cost_table.specs.Costs.{AreCosts, IsCostWithin, Quest, leg_to}
use Rattle.cost_table.specs.Endless.{endless}
use Rattle.cost_table.specs.Found.{cost_at, waits}
use Rattle.cost_table.specs.Reaches.{AreNamed, AreNear, IsFoundAfter}
use Rattle.cost_table.specs.declared.found.Found.{Found}
use Rattle.cost_table.specs.declared.want.Want.{Want}
use Rattle.cost_table.specs.declared.want.Want.TheVariants.{Nodes, Within}
use Rattle.cost_table.proofs.ArriveLemmas.{place-before, quest_on, walk-arrives}
use Rattle.cost_table.proofs.FoundLemmas.{named-costs}

module _ (task : Task) (lawful : IsTask task) (unused : (link : ℕ) → task.used link ≡ false) (limit : ℕ) where
  -- ---- No label waits

  module _ (before settled : List (Reached Carry)) (kept : KeepsPlaces before settled)
      (same : length settled ≤ length before) (closed : IsClosedAndOrdered (endless (rules_of task)) settled None)
      (found : Found) where
    -- a label stood there before
    was-there : (place : ℕ) (one : Reached Carry) → slice_get settled place ≡ Some one → slice_get before place ≡ Some one
    was-there place one at =
        let within = slice_get_within settled place one at in
        place-before before settled kept place one (omega (arith, within, same)) at

    -- where nodes are named, those without a cost are reached by no walk
    no-way-named :
        (nodes : Vec ℕ Global) → IsFoundAfter task (quest_on task lawful unused (Nodes nodes) limit) found before →
        AreCosts (quest_on task lawful unused (Nodes nodes) limit) (cost_at found)
    no-way-named nodes is =
        let quest : Quest = quest_on task lawful unused (Nodes nodes) limit in
        let are : AreNamed task nodes.items found before = is.by_want in
        named-costs quest nodes.items found is.sound
        (λ node there none walk leads.
        let waiting = are.rest node there none in
        let some = walk-some (leg_to quest node) walk
        (λ at.
        let away : waits found node ≡ false = subst (λ (n : ℕ). waits found n ≡ false) at are.away in
        let never : ⊥ = cc in
        never) leads in
        elim (walk-arrives task lawful unused settled None closed node walk some leads) [
          | inl a ↦
              let no : waits found node ≡ false =
              subst (λ (n : ℕ). waits found n ≡ false) a.at (are.unseen a.place a.label (was-there a.place a.label a.there)) in
              let never : ⊥ = cc in
              absurd never
          | inr b ↦ let is_bound = b.is in let never : ⊥ = cc in absurd never
        ])

    -- where all within a cost are asked for, no other node is reached at all
    no-way-within :
        (most : ℕ) → IsFoundAfter task (quest_on task lawful unused (Within most) limit) found before →
        AreCosts (quest_on task lawful unused (Within most) limit) (cost_at found)
    no-way-within most is node asked =
        let quest : Quest = quest_on task lawful unused (Within most) limit in
        let are : AreNear task most found before = is.by_want in
        elim (cost_at found node) as (λ r. cost_at found node ≡ r → IsCostWithin (leg_to quest node) most r) [
          | None ↦ λ none walk leads.
              let some = walk-some (leg_to quest node) walk
              (λ at.
              let here : cost_at found task.leg.start ≡ None =
              subst (λ (n : ℕ). cost_at found n ≡ None) (sym at) none in
              let there = is.home in
              let never : ⊥ = cc in
              never) leads in
              elim (walk-arrives task lawful unused settled None closed node walk some leads) [
                | inl a ↦
                    let seen = are.seen a.place a.label (was-there a.place a.label a.there) in
                    let there : cost_at found node ≡ Some seen.0 =
                    subst (λ (n : ℕ). cost_at found n ≡ Some seen.0) a.at seen.1 in
                    let never : ⊥ = cc in
                    absurd never
                | inr b ↦ let is_bound = b.is in let never : ⊥ = cc in absurd never
              ]
          | Some cost ↦ λ it. record { least = is.sound node cost it; within = are.low node cost it }
        ] refl

    -- so all is known
    pub no-way-known :
        (want : Want) → IsFoundAfter task (quest_on task lawful unused want limit) found before →
        AreCosts (quest_on task lawful unused want limit) (cost_at found)
    no-way-known (Nodes nodes) is = no-way-named nodes is
    no-way-known (Within most) is = no-way-within most is
