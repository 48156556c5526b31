-- The labels of a front once one of its blocks changed, and what lies under them.
use Rattle.std.proofs.Common.{◌≡◌, ℕ, zero, suc, ◌⊎◌, inl, inr, List, [], ◌∷◌, ◌++◌, length, set, Some, Result, Ok, Err, OnOk, refl, ap, sym, subst}
use Rattle.std.proofs.lemmas.Bool.{cases_eq}
use Rattle.std.proofs.lemmas.List.Elements.{Contains-append_left, Contains-append_right, Contains-append_cases}
use Rattle.std.proofs.lemmas.Option.{slice_get_within}
use Rattle.std.specs.List.{slice_get, Contains}
use Rattle.space_search.specs.Blocks.{members_of, Adds, HaveFloors, IsFloor, IsPair, IsSame, Splits}
use Rattle.space_search.specs.Fronts.{Thins}
use Rattle.space_search.specs.Rules.{IsUnder, Rules}
use Rattle.space_search.specs.declared.fronts.Block.{Block}
use Rattle.space_search.specs.declared.fronts.Member.{Member}
use Rattle.space_search.specs.declared.point.Point.{Point}
use Rattle.item_list.proofs.ListLemmas.{slice_get-append, slice_get-pushed, slice_get-push_cases, slice_get-same, slice_get-set, slice_get-set_cases, Contains-none, Contains-first, Contains-cons_cases}
use Rattle.space_search.proofs.PointLemmas.{under-under}

-- an element stays where another place is written
pub slice_get-set_other :
    {X : Type 0} (xs : List X) (i : ℕ) (y : X) (n : ℕ) (x : X) → (n ≡ i → ⊥) → slice_get xs n ≡ Some x →
    slice_get (set xs i y) n ≡ Some x
slice_get-set_other [] i y n x apart e = cc
slice_get-set_other (z ∷ xs) zero y zero x apart e = absurd (apart refl)
slice_get-set_other (z ∷ xs) zero y (suc n) x apart e = e
slice_get-set_other (z ∷ xs) (suc i) y zero x apart e = e
slice_get-set_other (z ∷ xs) (suc i) y (suc n) x apart e = slice_get-set_other xs i y n x (λ same. apart (ap suc same)) e

-- an element of a list with one more at its end is one of the list or the one
pub Contains-push_cases :
    {X : Type 0} (xs : List X) (y x : X) → Contains (xs ++ y ∷ []) x → Contains xs x ⊎ (y ≡ x)
Contains-push_cases xs y x h =
    elim (Contains-append_cases xs (y ∷ []) x h) [
      | inl old ↦ inl old
      | inr end ↦
          elim (Contains-cons_cases y [] x end) [
            | inl same ↦ inr same
            | inr none ↦ absurd (Contains-none x none)
          ]
    ]

-- the one at the end is an element
pub Contains-pushed : {X : Type 0} (xs : List X) (y : X) → Contains (xs ++ y ∷ []) y
Contains-pushed xs y = Contains-append_right xs (y ∷ []) y (Contains-first y [])

-- what two clauses say of an answer without want of memory
pub on_ok_both : {T E : Type 0} (P Q : Type 0) (r : Result T E) → OnOk r P → OnOk r Q → OnOk r (P × Q)
on_ok_both P Q (Ok x) p q = (p, q)
on_ok_both P Q (Err e) p q = tt

-- a label stands in a block
pub record InBlock {S : Type 0} (blocks : List (Block S)) (one : Member S) : Type 0 where
  pub place : ℕ
  pub block : Block S
  pub at : slice_get blocks place ≡ Some block
  pub there : Contains block.members.items one

-- a label of a block is one of all
pub in-block :
    {S : Type 0} (blocks : List (Block S)) (place : ℕ) (block : Block S) (one : Member S) →
    slice_get blocks place ≡ Some block → Contains block.members.items one → Contains (members_of blocks) one
in-block [] place block one at h = cc
in-block {S} (first ∷ blocks) zero block one at h =
    let same : first ≡ block = cc in
    Contains-append_left first.members.items (members_of blocks) one
    (subst (λ (b : Block S). Contains b.members.items one) (sym same) h)
in-block (first ∷ blocks) (suc place) block one at h =
    Contains-append_right first.members.items (members_of blocks) one (in-block blocks place block one at h)

-- one of all stands in a block
pub of-blocks :
    {S : Type 0} (blocks : List (Block S)) (one : Member S) → Contains (members_of blocks) one → InBlock blocks one
of-blocks [] one h = absurd (Contains-none one h)
of-blocks (first ∷ blocks) one h =
    elim (Contains-append_cases first.members.items (members_of blocks) one h) [
      | inl here ↦ record { place = 0; block = first; at = refl; there = here }
      | inr later ↦
          let s = of-blocks blocks one later in
          record { place = suc s.place; block = s.block; at = s.at; there = s.there }
    ]

module _ {S : Type 0} (blocks : List (Block S)) (new : Block S) where
  -- a block was put behind
  abbrev pushed : List (Block S)
  pushed = blocks ++ new ∷ []

  --
  pub push-from :
      (one : Member S) → Contains (members_of pushed) one →
      Contains (members_of blocks) one ⊎ Contains new.members.items one
  push-from one h =
      let s = of-blocks pushed one h in
      elim (slice_get-push_cases blocks new s.place s.block s.at) [
        | inl old ↦ inl (in-block blocks s.place s.block one old s.there)
        | inr (end, same) ↦ inr (subst (λ (b : Block S). Contains b.members.items one) (sym same) s.there)
      ]

  --
  pub push-stays : (one : Member S) → Contains (members_of blocks) one → Contains (members_of pushed) one
  push-stays one h =
      let s = of-blocks blocks one h in
      in-block pushed s.place s.block one (slice_get-append blocks (new ∷ []) s.place s.block s.at) s.there

  --
  pub push-new : (one : Member S) → Contains new.members.items one → Contains (members_of pushed) one
  push-new one h = in-block pushed (length blocks) new one (slice_get-pushed blocks new) h

  --
  pub floors-pushed :
      (rules : Rules S) → HaveFloors rules blocks → IsFloor rules new.low new.members.items → HaveFloors rules pushed
  floors-pushed rules floors floor place block at =
      elim (slice_get-push_cases blocks new place block at) [
        | inl old ↦ floors place block old
        | inr (end, same) ↦ subst (λ (b : Block S). IsFloor rules b.low b.members.items) same floor
      ]

  module _ (at : ℕ) (old : Block S) (there : slice_get blocks at ≡ Some old) where
    -- a block was put in the place of another
    abbrev put : List (Block S)
    put = set blocks at new

    --
    pub put-from :
        (one : Member S) → Contains (members_of put) one → Contains (members_of blocks) one ⊎ Contains new.members.items one
    put-from one h =
        let s = of-blocks put one h in
        elim (slice_get-set_cases blocks at new s.place s.block s.at) [
          | inl (apart, before) ↦ inl (in-block blocks s.place s.block one before s.there)
          | inr (here, same) ↦ inr (subst (λ (b : Block S). Contains b.members.items one) (sym same) s.there)
        ]

    --
    pub put-stays :
        (one : Member S) → Contains (members_of blocks) one → Contains (members_of put) one ⊎ Contains old.members.items one
    put-stays one h =
        let s = of-blocks blocks one h in
        elim (cases_eq s.place at) [
          | inl here ↦
              let same : s.block ≡ old =
              slice_get-same blocks at s.block old (subst (λ n. slice_get blocks n ≡ Some s.block) here s.at) there in
              inr (subst (λ (b : Block S). Contains b.members.items one) same s.there)
          | inr apart ↦
              inl (in-block put s.place s.block one (slice_get-set_other blocks at new s.place s.block apart s.at) s.there)
        ]

    --
    pub put-new : (one : Member S) → Contains new.members.items one → Contains (members_of put) one
    put-new one h = in-block put at new one (slice_get-set blocks at new (slice_get_within blocks at old there)) h

    --
    pub floors-put :
        (rules : Rules S) → HaveFloors rules blocks → IsFloor rules new.low new.members.items → HaveFloors rules put
    floors-put rules floors floor place block is =
        elim (slice_get-set_cases blocks at new place block is) [
          | inl (apart, before) ↦ floors place block before
          | inr (here, same) ↦ subst (λ (b : Block S). IsFloor rules b.low b.members.items) same floor
        ]

    -- a label joined the block
    pub adds-put : (one : Member S) → new.members.items ≡ old.members.items ++ one ∷ [] → Adds one (members_of blocks) (members_of put)
    adds-put one is =
        record {
          from = λ other h.
              elim (put-from other h) [
                | inl before ↦ inl before
                | inr inside ↦
                    elim (Contains-push_cases old.members.items one other
                    (subst (λ (l : List (Member S)). Contains l other) is inside)) [
                      | inl before ↦ inl (in-block blocks at old other there before)
                      | inr same ↦ inr same
                    ]
              ];
          stays = λ other h.
              elim (put-stays other h) [
                | inl stays ↦ stays
                | inr inside ↦
                    put-new other
                    (subst (λ (l : List (Member S)). Contains l other) (sym is)
                    (Contains-append_left old.members.items (one ∷ []) other inside))
              ];
          new =
              put-new one
              (subst (λ (l : List (Member S)). Contains l one) (sym is) (Contains-pushed old.members.items one));
        }

    -- labels left the block
    pub thins-put :
        (rules : Rules S) (one : Member S) → Thins rules one old.members.items new.members.items →
        Thins rules one (members_of blocks) (members_of put)
    thins-put rules one t =
        record {
          from = λ other h.
              elim (put-from other h) [
                | inl before ↦ before
                | inr inside ↦ in-block blocks at old other there (t.from other inside)
              ];
          rest = λ other h.
              elim (put-stays other h) [
                | inl stays ↦ inl stays
                | inr inside ↦
                    elim (t.rest other inside) [
                      | inl stays ↦ inl (put-new other stays)
                      | inr below ↦ inr below
                    ]
              ];
        }

-- a block was divided
pub same-divided :
    {S : Type 0} (blocks : List (Block S)) (at : ℕ) (old near far : Block S) → slice_get blocks at ≡ Some old →
    Splits old.members.items near.members.items far.members.items →
    IsSame (members_of blocks) (members_of (set blocks at near ++ far ∷ []))
same-divided blocks at old near far there splits =
    record {
      from = λ other h.
          elim (push-from (set blocks at near) far other h) [
            | inr last ↦ in-block blocks at old other there (splits.of_far other last)
            | inl first ↦
                elim (put-from blocks near at old there other first) [
                  | inl before ↦ before
                  | inr inside ↦ in-block blocks at old other there (splits.of_near other inside)
                ]
          ];
      stays = λ other h.
          elim (put-stays blocks near at old there other h) [
            | inl stays ↦ push-stays (set blocks at near) far other stays
            | inr inside ↦
                elim (splits.all other inside) [
                  | inl first ↦ push-stays (set blocks at near) far other (put-new blocks near at old there other first)
                  | inr last ↦ push-new (set blocks at near) far other last
                ]
          ];
    }

-- a label became a block of its own
pub adds-pushed :
    {S : Type 0} (blocks : List (Block S)) (new : Block S) (one : Member S) → new.members.items ≡ one ∷ [] →
    Adds one (members_of blocks) (members_of (blocks ++ new ∷ []))
adds-pushed {S} blocks new one is =
    record {
      from = λ other h.
          elim (push-from blocks new other h) [
            | inl before ↦ inl before
            | inr inside ↦
                elim (Contains-cons_cases one [] other (subst (λ (l : List (Member S)). Contains l other) is inside)) [
                  | inl same ↦ inr same
                  | inr none ↦ absurd (Contains-none other none)
                ]
          ];
      stays = push-stays blocks new;
      new = push-new blocks new one (subst (λ (l : List (Member S)). Contains l one) (sym is) (Contains-first one []));
    }

-- what was added stays
pub adds-same :
    {S : Type 0} (one : Member S) (before between after : List (Member S)) → Adds one before between →
    IsSame between after → Adds one before after
adds-same one before between after adds same =
    record {
      from = λ other h. adds.from other (same.from other h);
      stays = λ other h. same.stays other (adds.stays other h);
      new = same.stays one adds.new;
    }

-- two that were added to nothing
pub pair-added :
    {S : Type 0} (first second : Member S) (between after : List (Member S)) → Adds first [] between →
    Adds second between after → IsPair first second after
pair-added first second between after one two =
    record {
      from = λ other h.
          elim (two.from other h) [
            | inr same ↦ inr same
            | inl before ↦
                elim (one.from other before) [
                  | inr same ↦ inl same
                  | inl none ↦ absurd (Contains-none other none)
                ]
          ];
      has_first = two.stays first one.new;
      has_second = two.new;
    }

-- the lower point with one label more
pub floor-added :
    {S : Type 0} (rules : Rules S) (low least : Point) (before after : List (Member S)) (one : Member S) →
    IsFloor rules low before → after ≡ before ++ one ∷ [] → IsUnder least low →
    IsUnder least (rules.point one.state one.cost) → IsFloor rules least after
floor-added {S} rules low least before after one floor is under new other h =
    elim (Contains-push_cases before one other (subst (λ (l : List (Member S)). Contains l other) is h)) [
      | inl old ↦ under-under least low (rules.point other.state other.cost) under (floor other old)
      | inr same ↦ subst (λ (m : Member S). IsUnder least (rules.point m.state m.cost)) same new
    ]
