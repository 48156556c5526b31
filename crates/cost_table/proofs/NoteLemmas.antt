-- What is found stays right with each label that is settled.
use Rattle.std.proofs.Common.{◌≡◌, ℕ, ◌<◌, ◌≤◌, inl, inr, Bool, true, false, List, length, Some, None, refl, sym, ap, ◌∙◌, subst, arith, Vec, Global}
use Rattle.std.specs.List.{Contains}
use Rattle.std.proofs.lemmas.Bool.{cases_eq}
use Rattle.cost_model.specs.declared.parts.Carry.{Carry}
use Rattle.space_search.specs.Turns.{IsClosedAndOrdered}
use Rattle.space_search.specs.View.{Reached}
use Rattle.bike_space.specs.Lawful.{IsTask}
use Rattle.bike_space.specs.Tasks.{Task, rules_of}
use Rattle.bike_space.proofs.CallerLemmas.{walk-some}
use Rattle.cost_table.specs.Costs.{AreCosts, IsCostOf, IsCostWithin, IsLeastCost, Quest, leg_to}
use Rattle.cost_table.specs.Endless.{endless}
use Rattle.cost_table.specs.Found.{AreSame, NotesBy, NotesNamed, NotesWithin, PutsDown, beyond, cost_at, found, passed, waits, within}
use Rattle.cost_table.specs.Reaches.{AreNamed, AreNear, IsFoundAfter, arrival}
use Rattle.cost_table.specs.Waiting.{NoneWaits, WaitsNoLonger}
use Rattle.cost_table.specs.declared.found.Found.{Found}
use Rattle.cost_table.specs.declared.want.Want.{Want}
use Rattle.cost_table.specs.declared.want.Want.TheVariants.{Nodes, Within}
use Rattle.cost_table.proofs.ArriveLemmas.{IsGrown, last-least, quest_on, walk-arrives}
use Rattle.cost_table.proofs.FoundLemmas.{named-costs, puts-either, puts-keeps, puts-some, puts-sound, waits-not, waits-still}

-- what is known after a label is noted, with whether all is found
abbrev pub IsKnown : (task : Task) (quest : Quest) (after : Found) (settled : List (Reached Carry)) → Bool → Type 0
IsKnown task quest after settled false = IsFoundAfter task quest after settled
IsKnown task quest after settled true = AreCosts quest (cost_at after)

module _ (task : Task) (lawful : IsTask task) (unused : (link : ℕ) → task.used link ≡ false) (limit : ℕ) where
  -- no node is told at a cost that isn't least where the same costs are found
  same-sound :
      (quest : Quest) (before after : Found) → AreSame before after →
      ((node cost : ℕ) → cost_at before node ≡ Some cost → IsLeastCost (leg_to quest node) cost) →
      (node cost : ℕ) → cost_at after node ≡ Some cost → IsLeastCost (leg_to quest node) cost
  same-sound quest before after same sound node cost is = sound node cost (sym (same.costs node) ∙ is)

  module _ (earlier settled : List (Reached Carry)) (last : Reached Carry) (grown : IsGrown earlier settled last)
      (closed : IsClosedAndOrdered (endless (rules_of task)) settled (Some last.cost)) (before after : Found) where
    -- ---- Nodes that are named

    module _ (nodes : List ℕ) (want : Want)
        (sound : (node cost : ℕ) → cost_at before node ≡ Some cost →
        IsLeastCost (leg_to (quest_on task lawful unused want limit) node) cost)
        (home : cost_at before task.leg.start ≡ Some 0) (are : AreNamed task nodes before earlier) where
      -- what is asked
      abbrev quest : Quest
      quest = quest_on task lawful unused want limit

      -- a label whose node doesn't wait changes nothing
      passed-named :
          waits before (arrival task last) ≡ false → AreSame before after → AreNamed task nodes after settled
      passed-named idle same = record {
        named = λ node is. are.named node (sym (same.waiting node) ∙ is);
        rest = λ node there none. same.waiting node ∙ are.rest node there (sym (same.costs node) ∙ none);
        away = same.waiting task.leg.start ∙ are.away;
        some = (are.some.0, same.waiting are.some.0 ∙ are.some.1);
        unseen = λ place label at.
            elim (grown.each place label at) [
              | inl was ↦ same.waiting (arrival task label) ∙ are.unseen place label was
              | inr is ↦
                  same.waiting (arrival task label)
                  ∙ subst (λ (l : Reached Carry). waits before (arrival task l) ≡ false) (sym is) idle
            ];
      }

      -- the cost of one whose node waits is least
      found-least : waits before (arrival task last) ≡ true → IsLeastCost (leg_to quest (arrival task last)) last.cost
      found-least is =
          let away = are.away in
          last-least task lawful unused want limit settled (length earlier) last grown.there closed
          (λ same.
          let no : waits before (arrival task last) ≡ false = ap (waits before) same ∙ away in
          let never : ⊥ = cc in
          never)
          (λ other label at arrives.
          elim (grown.each other label at) [
            | inl was ↦
                let no : waits before (arrival task last) ≡ false =
                subst (λ (n : ℕ). waits before n ≡ false) arrives (are.unseen other label was) in
                let never : ⊥ = cc in
                absurd never
            | inr same ↦ same
          ])

      module _ (is : waits before (arrival task last) ≡ true)
          (no_longer : WaitsNoLonger (arrival task last) (waits before) (waits after))
          (puts : PutsDown (arrival task last) last.cost (cost_at before) (cost_at after)) where
        -- so costs stay least ones
        found-sound : (node cost : ℕ) → cost_at after node ≡ Some cost → IsLeastCost (leg_to quest node) cost
        found-sound =
            puts-sound (arrival task last) last.cost (cost_at before) (cost_at after) puts quest sound
            (λ _. found-least is)

        -- what is named and has no cost waits
        found-rest : (node : ℕ) → Contains nodes node → cost_at after node ≡ None → waits after node ≡ true
        found-rest node there none =
            elim (cases_eq node (arrival task last)) [
              | inl same ↦
                  let some = puts-some (arrival task last) last.cost (cost_at before) (cost_at after) puts in
                  let not_there : cost_at after (arrival task last) ≡ None =
                  subst (λ (n : ℕ). cost_at after n ≡ None) same none in
                  let it = some.1 in
                  let never : ⊥ = cc in
                  absurd never
              | inr differ ↦
                  no_longer.others node differ
                  ∙ are.rest node there (sym (puts.others node differ) ∙ none)
            ]

        -- the others wait still
        found-named : (node : ℕ) × (waits after node ≡ true) → AreNamed task nodes after settled
        found-named more = record {
          named = λ node waiting.
              are.named node (waits-still (arrival task last) (waits before) (waits after) no_longer node waiting).1;
          rest = found-rest;
          away = waits-not (arrival task last) (waits before) (waits after) no_longer task.leg.start are.away;
          some = more;
          unseen = λ place label at.
              elim (grown.each place label at) [
                | inl was ↦
                    waits-not (arrival task last) (waits before) (waits after) no_longer (arrival task label)
                    (are.unseen place label was)
                | inr same ↦
                    subst (λ (l : Reached Carry). waits after (arrival task l) ≡ false) (sym same) no_longer.here
              ];
        }

        -- where none waits the costs of all are found
        found-all : NoneWaits (waits after) true → (node : ℕ) → Contains nodes node →
            IsCostOf (leg_to quest node) (cost_at after node)
        found-all none =
            named-costs quest nodes after found-sound
            (λ node there no_cost.
            let waiting = found-rest node there no_cost in
            let not_waiting = none node in
            let never : ⊥ = cc in
            absurd never)

        -- the node that is left has cost 0
        found-home : cost_at after task.leg.start ≡ Some 0
        found-home = puts-keeps (arrival task last) last.cost (cost_at before) (cost_at after) puts task.leg.start 0 home

    -- ---- All within a cost

    module _ (most : ℕ) (want : Want)
        (sound : (node cost : ℕ) → cost_at before node ≡ Some cost →
        IsLeastCost (leg_to (quest_on task lawful unused want limit) node) cost)
        (home : cost_at before task.leg.start ≡ Some 0) (are : AreNear task most before earlier) where
      -- what is asked
      abbrev asked : Quest
      asked = quest_on task lawful unused want limit

      -- a label beyond the cost shows that all is found
      beyond-costs : most < last.cost → AreSame before after → (node : ℕ) →
          IsCostWithin (leg_to asked node) most (cost_at after node)
      beyond-costs more same node =
          elim (cost_at after node) as (λ r. cost_at after node ≡ r → IsCostWithin (leg_to asked node) most r) [
            | None ↦ λ none walk is.
                let some = walk-some (leg_to asked node) walk
                (λ at.
                let here : cost_at after task.leg.start ≡ None =
                subst (λ (n : ℕ). cost_at after n ≡ None) (sym at) none in
                let there : cost_at after task.leg.start ≡ Some 0 = same.costs task.leg.start ∙ home in
                let never : ⊥ = cc in
                never) is in
                elim (walk-arrives task lawful unused settled (Some last.cost) closed node walk some is) [
                  | inl a ↦
                      elim (grown.each a.place a.label a.there) [
                        | inl was ↦
                            let seen = are.seen a.place a.label was in
                            let there : cost_at after node ≡ Some seen.0 =
                            same.costs node ∙ subst (λ (n : ℕ). cost_at before n ≡ Some seen.0) a.at seen.1 in
                            let never : ⊥ = cc in
                            absurd never
                        | inr it ↦
                            let costs : a.label.cost ≡ last.cost = ap (λ (l : Reached Carry). l.cost) it in
                            omega (arith, a.cheaper, costs, more)
                      ]
                  | inr b ↦
                      let is_bound = b.is in
                      let one : last.cost ≡ b.bound = cc in
                      omega (arith, b.below, one, more)
                ]
            | Some cost ↦ λ is.
                let was : cost_at before node ≡ Some cost = sym (same.costs node) ∙ is in
                record { least = sound node cost was; within = are.low node cost was }
          ] refl

      module _ (low : last.cost ≤ most)
          (puts : PutsDown (arrival task last) last.cost (cost_at before) (cost_at after)) where
        -- the cost of a label is least where none is found for its node
        near-least : cost_at before (arrival task last) ≡ None →
            IsLeastCost (leg_to asked (arrival task last)) last.cost
        near-least none =
            last-least task lawful unused want limit settled (length earlier) last grown.there closed
            (λ same.
            let here : cost_at before (arrival task last) ≡ Some 0 = ap (cost_at before) same ∙ home in
            let never : ⊥ = cc in
            never)
            (λ other label at arrives.
            elim (grown.each other label at) [
              | inl was ↦
                  let seen = are.seen other label was in
                  let there : cost_at before (arrival task last) ≡ Some seen.0 =
                  subst (λ (n : ℕ). cost_at before n ≡ Some seen.0) arrives seen.1 in
                  let never : ⊥ = cc in
                  absurd never
              | inr same ↦ same
            ])

        -- so costs stay least ones
        near-sound : (node cost : ℕ) → cost_at after node ≡ Some cost → IsLeastCost (leg_to asked node) cost
        near-sound =
            puts-sound (arrival task last) last.cost (cost_at before) (cost_at after) puts asked sound near-least

        -- and within the cost that is asked for
        near-more : AreNear task most after settled
        near-more = record {
          low = λ node cost is.
              elim (puts-either (arrival task last) last.cost (cost_at before) (cost_at after) puts node cost is) [
                | inl was ↦ are.low node cost was
                | inr new ↦ omega (arith, low, new.2)
              ];
          near = λ place label at.
              elim (grown.each place label at) [
                | inl was ↦ are.near place label was
                | inr same ↦
                    let costs : label.cost ≡ last.cost = ap (λ (l : Reached Carry). l.cost) same in
                    omega (arith, low, costs)
              ];
          seen = λ place label at.
              elim (grown.each place label at) [
                | inl was ↦
                    let seen = are.seen place label was in (
                      seen.0,
                      puts-keeps (arrival task last) last.cost (cost_at before) (cost_at after) puts
                          (arrival task label) seen.0 seen.1,
                    )
                | inr same ↦
                    let some = puts-some (arrival task last) last.cost (cost_at before) (cost_at after) puts in
                    (some.0, ap (λ (l : Reached Carry). cost_at after (arrival task l)) same ∙ some.1)
              ];
        }

        -- the node that is left has cost 0
        near-home : cost_at after task.leg.start ≡ Some 0
        near-home = puts-keeps (arrival task last) last.cost (cost_at before) (cost_at after) puts task.leg.start 0 home

    -- ---- By what is asked

    -- what is known after a label is noted where nodes are named
    known-named :
        (nodes : Vec ℕ Global) (done : Bool) → IsFoundAfter task (quest_on task lawful unused (Nodes nodes) limit) before earlier →
        NotesNamed (arrival task last) last.cost before after done →
        IsKnown task (quest_on task lawful unused (Nodes nodes) limit) after settled done
    known-named nodes done is (passed idle same) = record {
      sound = same-sound (quest_on task lawful unused (Nodes nodes) limit) before after same is.sound;
      home = same.costs task.leg.start ∙ is.home;
      by_want = passed-named nodes.items (Nodes nodes) is.sound is.home is.by_want idle same;
    }
    known-named nodes true is (found waiting no_longer puts none) =
        found-all nodes.items (Nodes nodes) is.sound is.home is.by_want waiting no_longer puts none
    known-named nodes false is (found waiting no_longer puts more) = record {
      sound = found-sound nodes.items (Nodes nodes) is.sound is.home is.by_want waiting no_longer puts;
      home = found-home nodes.items (Nodes nodes) is.sound is.home is.by_want waiting no_longer puts;
      by_want = found-named nodes.items (Nodes nodes) is.sound is.home is.by_want waiting no_longer puts more;
    }

    -- and where all within a cost is asked for
    known-within :
        (most : ℕ) (done : Bool) → IsFoundAfter task (quest_on task lawful unused (Within most) limit) before earlier →
        NotesWithin most (arrival task last) last.cost before after done →
        IsKnown task (quest_on task lawful unused (Within most) limit) after settled done
    known-within most done is (beyond more same) =
        λ node _. beyond-costs most (Within most) is.sound is.home is.by_want more same node
    known-within most done is (within low puts) = record {
      sound = near-sound most (Within most) is.sound is.home is.by_want low puts;
      home = near-home most (Within most) is.sound is.home is.by_want low puts;
      by_want = near-more most (Within most) is.sound is.home is.by_want low puts;
    }

    -- so it is by whatever is asked
    pub note-known :
        (want : Want) (done : Bool) → IsFoundAfter task (quest_on task lawful unused want limit) before earlier →
        NotesBy want (arrival task last) last.cost before after done →
        IsKnown task (quest_on task lawful unused want limit) after settled done
    note-known (Nodes nodes) done is notes = known-named nodes done is notes
    note-known (Within most) done is notes = known-within most done is notes
