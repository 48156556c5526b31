-- The finding ended at a radius: the sums are the least ones up to it.
use Rattle.std.proofs.Common.{◌≡◌, ℕ, ◌<◌, ◌≤◌, inl, inr, cond, List, [], ◌∷◌, length, get_or, map, Option, Some, None, option_map, refl, sym, ap, ◌∙◌, subst, arith}
use Rattle.std.specs.Prelude.{Result, Ok, Err, IfOk}
use Rattle.std.specs.declared.cmp.Reverse.{Reverse}
use Rattle.std.proofs.lemmas.Bool.{cases_lt, lt-ltb, le-ltb}
use Rattle.std.proofs.lemmas.List.{get_or-map, get_or_past, length-map, map-id}
use Rattle.std.proofs.lemmas.List.Sorted.{IsPermutation-sym}
use Rattle.overpass_graph.specs.Roads.{Roads}
use Rattle.least_sums.specs.Prices.{Prices}
use Rattle.least_sums.specs.Sums.{AreBelow, AreLeastSums, AreLeastSumsUpTo, IsLeastSumUpTo, NodeSums, IsOpenWalk, SUM_BOUND, sum_along, sum_of}
use Rattle.least_sums.specs.Keeping.{seen_up_to}
use Rattle.least_sums.specs.States.{State, Entry, Pops, IsState, AreDone, IsEnded, IsEndedAt, IsFinal, WaitNoLess, at, entry_of}
use Rattle.least_sums.proofs.StateLemmas.{pushed-cases}
use Rattle.least_sums.proofs.PopLemmas.{popped-state}
use Rattle.least_sums.proofs.WalkLemmas.{walk-rest, sum-front}

-- ---- How it ends

module _ (roads : Roads) (prices : Prices) (target far : ℕ) (old new : State) (sum node : ℕ)
    (state : IsState roads prices target far old) (pops : Pops old new sum node) where
  -- where an entry leaves whose sum is no less than a radius, and no other one that waits has less, it is at its end
  pub ended-at :
      (radius : ℕ) → AreDone roads prices far old → radius ≤ sum → radius ≤ far → WaitNoLess new radius →
      IsEndedAt roads prices target far radius new
  ended-at radius done most fits least =
      record {
        is_state = popped-state roads prices target far old new sum node state pops;
        fits = fits;
        done = λ link price within priced.
            elim (done link within price priced) [
              | inl relaxed ↦ inl (rw pops.sums relaxed.low)
              | inr waits ↦
                  elim (pushed-cases (sum, node) new.queue old.queue (IsPermutation-sym old.queue
                  ((sum, node) ∷ new.queue) pops.queue) (at old (roads.to link), roads.to link) waits) [
                    | inl first ↦
                        let same : sum ≡ at old (roads.to link) = ap (λ (e : Entry). e.0) first in
                        inr (rw pops.sums (omega (arith, same, most)))
                    | inr later ↦ inr (rw pops.sums (least _ _ later))
                  ]
            ];
      }

-- ---- What was found

-- the sums that stand for these numbers up to a radius
abbrev pub up_to : ℕ → List ℕ → NodeSums
up_to radius numbers = record { sums = map (seen_up_to radius) numbers; radius = Some radius }

-- a number below the radius stands for itself
seen-within : (radius number : ℕ) → number < radius → seen_up_to radius number ≡ Some number
seen-within radius number near = ap (λ b. Some (cond b number radius)) (lt-ltb number radius near)

-- any other one for the radius
pub seen-beyond : (radius number : ℕ) → radius ≤ number → seen_up_to radius number ≡ Some radius
seen-beyond radius number beyond = ap (λ b. Some (cond b number radius)) (le-ltb number radius beyond)

-- none for more than the radius
seen-most : (radius number sum : ℕ) → seen_up_to radius number ≡ Some sum → sum ≤ radius
seen-most radius number sum is =
    elim (cases_lt number radius) [
      | inl near ↦
          let both : Some number ≡ Some sum = sym (seen-within radius number near) ∙ is in
          let same : number ≡ sum = cc in
          omega (arith, same, near)
      | inr beyond ↦
          let both : Some radius ≡ Some sum = sym (seen-beyond radius number (omega (arith, beyond))) ∙ is in
          let same : radius ≡ sum = cc in
          omega (arith, same)
    ]

-- so each sum that is seen is below every bound above the radius
pub near-below : (radius : ℕ) (sums : List ℕ) → radius < SUM_BOUND → AreBelow (map (seen_up_to radius) sums)
near-below radius sums small node sum is =
    elim (cases_lt node (length sums)) [
      | inl within ↦
          let seen : sum_of (map (seen_up_to radius) sums) node ≡ seen_up_to radius (get_or sums node 0) =
          get_or-map (seen_up_to radius) sums node 0 None within in
          omega (arith, seen-most radius (get_or sums node 0) sum (sym seen ∙ is), small)
      | inr past ↦
          let beyond : length (map (seen_up_to radius) sums) ≤ node = rw length-map (omega (arith, past)) in
          let both : None ≡ Some sum = sym (get_or_past (map (seen_up_to radius) sums) node None beyond) ∙ is in
          absurd cc
    ]

module _ (roads : Roads) (prices : Prices) (target far radius : ℕ) (state : State)
    (ended : IsEndedAt roads prices target far radius state) where
  -- the sum of a node is at most what each walk from it comes to that comes to less than the radius
  near-low :
      (walk : List ℕ) (node : ℕ) → IsOpenWalk roads prices target node walk → sum_along prices walk < radius →
      at state node ≤ sum_along prices walk
  near-low [] node is below = rw (is.stays refl) (omega (arith, ended.is_state.target_is))
  near-low (link ∷ walk) node is below =
      let front = walk-rest roads prices target node link walk is in
      let sums = sum-front roads prices target link front.price walk front.priced in
      let rest : sum_along prices walk < radius = omega (arith, sums, below) in
      let behind = near-low walk (roads.to link) front.rest rest in
      elim (ended.done link front.price front.within front.priced) [
        | inl relaxed ↦ rw (sym front.leaves) (omega (arith, relaxed, behind, sums))
        | inr beyond ↦ absurd (omega (arith, beyond, behind, rest))
      ]

  -- so what is seen of a node is its least sum up to the radius
  near-each :
      (node : ℕ) → node < roads.nodes →
      IsLeastSumUpTo roads prices target (Some radius) node (seen_up_to radius (at state node))
  near-each node node_in =
      elim (cases_lt (at state node) radius) [
        | inl near ↦
            subst (IsLeastSumUpTo roads prices target (Some radius) node) (sym (seen-within radius (at state node) near))
            (record {
              within = omega (arith, near);
              least = λ walk is.
                  elim (cases_lt (sum_along prices walk) radius) [
                    | inl below ↦ near-low walk node is below
                    | inr above ↦ omega (arith, near, above)
                  ];
              found = λ below. ended.is_state.walks node node_in (omega (arith, near, ended.fits));
            })
        | inr beyond ↦
            subst (IsLeastSumUpTo roads prices target (Some radius) node)
            (sym (seen-beyond radius (at state node) (omega (arith, beyond))))
            (record {
              within = omega arith;
              least = λ walk is.
                  elim (cases_lt (sum_along prices walk) radius) [
                    | inl below ↦ absurd (omega (arith, beyond, near-low walk node is below, below))
                    | inr above ↦ omega (arith, above)
                  ];
              found = λ below. absurd (omega (arith, below));
            })
      ]

  -- and so are all
  near-least : AreLeastSumsUpTo roads prices target (up_to radius state.sums)
  near-least =
      record {
        counted = length-map state.sums (seen_up_to radius) ∙ ended.is_state.counted;
        least = λ node node_in.
            let seen : sum_of (map (seen_up_to radius) state.sums) node ≡ seen_up_to radius (at state node) =
            get_or-map (seen_up_to radius) state.sums node 0 None (rw ended.is_state.counted node_in) in
            subst (IsLeastSumUpTo roads prices target (Some radius) node) (sym seen) (near-each node node_in);
      }

-- the same of numbers that are kept as they are
pub kept-near :
    (roads : Roads) (prices : Prices) (target far radius : ℕ) (sums : List ℕ) (state : State) →
    IsEndedAt roads prices target far radius state → state.sums ≡ map (λ n. n) sums →
    AreLeastSumsUpTo roads prices target (up_to radius sums)
kept-near roads prices target far radius sums state ended kept =
    subst (λ xs. AreLeastSumsUpTo roads prices target (up_to radius xs)) (kept ∙ map-id sums)
    (near-least roads prices target far radius state ended)

-- how the finding ended, by the radius that was matched
pub ended-some :
    (roads : Roads) (prices : Prices) (target far radius : ℕ) (o : Option ℕ) (state : State) → o ≡ Some radius →
    IsEnded roads prices target far (option_map (λ n. n) o) state → IsEndedAt roads prices target far radius state
ended-some roads prices target far radius o state is ended =
    subst (λ r. IsEnded roads prices target far (option_map (λ n. n) r) state) is ended

-- and where there was none
pub ended-none :
    (roads : Roads) (prices : Prices) (target far : ℕ) (o : Option ℕ) (state : State) → o ≡ None →
    IsEnded roads prices target far (option_map (λ n. n) o) state → IsFinal roads prices target far state
ended-none roads prices target far o state is ended =
    subst (λ r. IsEnded roads prices target far (option_map (λ n. n) r) state) is ended

-- where all sums are found, there is no radius
pub up-to-all :
    (roads : Roads) (prices : Prices) (target : ℕ) (found : NodeSums) → AreLeastSums roads prices target found.sums →
    found.radius ≡ None → AreLeastSumsUpTo roads prices target found
up-to-all roads prices target found all whole = record {
  counted = all.counted;
  least = λ node within.
      subst (λ r. IsLeastSumUpTo roads prices target r node (sum_of found.sums node)) (sym whole) (all.least node within);
}

-- the same of what may have failed
pub up-to-ok :
    {E : Type 0} (roads : Roads) (prices : Prices) (target : ℕ) (result : Result NodeSums E) →
    IfOk result (λ found. AreLeastSums roads prices target found.sums) → IfOk result (λ found. found.radius ≡ None) →
    IfOk result (AreLeastSumsUpTo roads prices target)
up-to-ok roads prices target (Ok found) all whole = up-to-all roads prices target found all whole
up-to-ok roads prices target (Err e) all whole = tt

-- ---- What waits

-- an entry at a place of a queue, by what was read there
pub waits-one :
    {N : Type 0} (number : N → ℕ) (items : List (Reverse (N × ℕ))) (k sum node : ℕ) (x : Reverse (N × ℕ)) →
    k < length items → x ≡ get_or items k x →
    let entry : Entry = (sum, node) in get_or (map (entry_of number) items) k entry ≡ entry → sum ≡ number x.0.0
waits-one number items k sum node x within read is =
    let entry : Entry = (sum, node) in
    let same : entry ≡ entry_of number x =
    sym is ∙ get_or-map (entry_of number) items k x entry within ∙ ap (entry_of number) (sym read) in
    ap (λ (e : Entry). e.0) same
