use Rattle.std.proofs.Common.{◌≡◌, ◌≢◌, ℕ, ◌<◌, ◌≤◌, ◌+◌, List, [], ◌∷◌, ◌++◌, length, set, take, ap, arith, sym, ◌∙◌}
use Rattle.std.proofs.lemmas.List.{length_push, length-set, take_all, take_more_set}
use Rattle.space_search.specs.declared.step.Step.{Step}
use Rattle.space_search.proofs.step.Steps.put.Goals.{then-self-len+in_ok-make_room, else-self-len}
use Rattle.space_search.proofs.step.Steps.put.Goals as goal

-- where the list has no room behind what counts, all of it counts with what was pushed
put-made :
    {X : Type 0} (xs ys : List X) (count : ℕ) (x : X) → count ≡ length xs → ys ≡ xs ++ x ∷ [] →
    take (count + 1) ys ≡ take count xs ++ x ∷ []
put-made xs ys count x full is =
    rw is
    (take_all (count + 1) (xs ++ x ∷ []) (omega (arith, full, length_push xs x))
    ∙ ap (λ l. l ++ x ∷ []) (sym (take_all count xs (omega (arith, full)))))

-- so many stand in it
made-within : {X : Type 0} (xs ys : List X) (count : ℕ) (x : X) → count ≡ length xs → ys ≡ xs ++ x ∷ [] → count + 1 ≤ length ys
made-within xs ys count x full is = omega (arith, full, ap length is, length_push xs x)

-- else there is room
room-left : (count read room : ℕ) → count ≢ read → read ≡ room → count ≤ room → count < room
room-left count read room other is within = omega arith

-- what was written has a place
written-within : {X : Type 0} (xs : List X) (count : ℕ) (x : X) → count < length xs → count + 1 ≤ length (set xs count x)
written-within xs count x within = omega (arith, within, length-set xs count x)

pub invariant_of-self-2 : goal.invariant_of-self-2
invariant_of-self-2 g c =
    elim c.if-self-len.branch [
      | then-self-len+in_ok-make_room w ↦
          rw w.self-inside-is
          (made-within c.self.inside.room.items w.make_room.new.room.items c.self.inside.count c.args.step
          (w.if-self-len.true ∙ c.len.ensures ∙ c.self.inside.room.ok.0) w.in_ok-make_room.ensures.value)
      | else-self-len w ↦
          rw w.self-inside-is
          (written-within c.self.inside.room.items c.self.inside.count c.args.step
          (room-left c.self.inside.count c.len.result (length c.self.inside.room.items) w.if-self-len.false
          (c.len.ensures ∙ c.self.inside.room.ok.0) c.self.invariant))
    ]

pub returns-clause-value : goal.returns-clause-value
returns-clause-value g c =
    elim c.if-self-len.branch [
      | then-self-len+in_ok-make_room w ↦
          rw w.self-inside-is
          (put-made c.self.inside.room.items w.make_room.new.room.items c.self.inside.count c.args.step
          (w.if-self-len.true ∙ c.len.ensures ∙ c.self.inside.room.ok.0) w.in_ok-make_room.ensures.value
          ∙ ap (λ (l : List (Step g.row.T.Denot)). l ++ c.args.step ∷ []) c.self.view_is)
      | else-self-len w ↦
          rw w.self-inside-is
          (take_more_set c.self.inside.room.items c.self.inside.count c.args.step
          (room-left c.self.inside.count c.len.result (length c.self.inside.room.items) w.if-self-len.false
          (c.len.ensures ∙ c.self.inside.room.ok.0) c.self.invariant)
          ∙ ap (λ (l : List (Step g.row.T.Denot)). l ++ c.args.step ∷ []) c.self.view_is)
    ]
