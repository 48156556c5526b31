-- What keeps within the limits where an element is added.
use Rattle.std.proofs.Common.{◌≡◌, ℕ, suc, ◌+◌, ℤ, Bool, true, false, cond, List, [], ◌∷◌, ◌++◌, length, length-append, set, slice_get, nat_lt, nat_le, Option, Some, None, Result, Ok, Err, IsTrue, refl, sym, ap, ◌∙◌, subst, arith}
use Rattle.std.proofs.lemmas.List.{length-set}
use Rattle.std.proofs.lemmas.Bool.Decides.{nat_tests}
use Rattle.geo_int.specs.Place.{Place}
use Rattle.map_tables.specs.Kept.{Tag, Kept, kept_with, with_tags, unless, keep_beside, keep}
use Rattle.map_tables.specs.Draft.{Draft, IsWithin, segment_count, segments_in, members_in, fault_unless, beyond_nodes, beyond_ways, beyond_members, same_place, same_nodes, same_members, with_nodes, with_ways, with_relations}
use Rattle.map_tables.specs.declared.limits.Limits.{Limits}
use Rattle.map_tables.specs.declared.member.Member.{Member}
use Rattle.map_tables.specs.declared.error.MapError.{MapError}
use Rattle.map_tables.proofs.KeptLemmas.{total_of-append, total_of-set, total_of-with_tags}

-- ---- One more element

-- what is kept where an element came has what it has where one is given again, and where the new one goes last
keep-has : {C E : Type 0} (P : List (Kept C) → Type 0) (same : C → C → Bool) (double : E) (beyond : Option E)
    (new : Kept C) (ks more : List (Kept C))
    → P (with_tags new.id new.tags ks) → (beyond ≡ None → P (ks ++ new ∷ []))
    → keep same double beyond new ks ≡ Ok more → P more
keep-has {C} {E} P same double beyond new ks more again last is = by_old (kept_with new.id ks) is
  where
    ok_same : {x y : List (Kept C)} → ◌≡◌ {A = Result (List (Kept C)) E} (Ok x) (Ok y) → x ≡ y
    ok_same e = cc

    by_beyond : (o : Option E) → beyond ≡ o → unless o (ks ++ new ∷ []) ≡ Ok more → P more
    by_beyond None none is = subst P (ok_same is) (last none)
    by_beyond (Some e) some is = absurd cc

    by_same : (b : Bool)
        → cond {A = Result (List (Kept C)) E} b (Ok (with_tags new.id new.tags ks)) (Err double) ≡ Ok more → P more
    by_same true is = subst P (ok_same is) again
    by_same false is = absurd cc

    by_old : (o : Option (Kept C)) → keep_beside same double beyond new ks o ≡ Ok more → P more
    by_old None is = by_beyond beyond refl is
    by_old (Some old) is = by_same (same old.content new.content) is

-- an element given again leaves their number
length-with_tags : {C : Type 0} (id : ℤ) (tags : List Tag) (ks : List (Kept C))
    → length (with_tags id tags ks) ≡ length ks
length-with_tags id tags [] = refl
length-with_tags id tags (k ∷ ks) = ap suc (length-with_tags id tags ks)

-- ---- Limits

-- where there is no fault, it is so
room : (b : Bool) (fault : MapError) → fault_unless b fault ≡ None → b ≡ true
room true fault none = refl
room false fault none = absurd cc

-- and where there is none of two, both are
both_rooms : (a b : Bool) (e f : MapError) → cond a (fault_unless b e) (Some f) ≡ None → (a ≡ true) × (b ≡ true)
both_rooms true b e f none = (refl, room b e none)
both_rooms false b e f none = absurd cc

-- a count that is as another is within the same limit
as_many : (more count most : ℕ) → more ≡ count → IsTrue (nat_le count most) → IsTrue (nat_le more most)
as_many more count most same within = subst (λ n. IsTrue (nat_le n most)) (sym same) within

-- one more than a count that is below a limit is within it
one_more : {C : Type 0} (ks : List C) (k : C) (most : ℕ) → nat_lt (length ks) most ≡ true
    → IsTrue (nat_le (length (ks ++ k ∷ [])) most)
one_more ks k most below =
    let count : length (ks ++ k ∷ []) ≡ length ks + 1 = length-append ks (k ∷ []) in
    let within : nat_le (length (ks ++ k ∷ [])) most ≡ true = grind (arith, nat_tests) in
    within

module _ (limits : Limits) (draft : Draft) (within : IsWithin limits draft) (double : MapError) where
  -- nodes keep within the limits
  pub IsWithin-nodes : (beyond : Option MapError) (new : Kept Place) → beyond ≡ beyond_nodes limits draft
      → (more : List (Kept Place)) → keep same_place double beyond new draft.nodes ≡ Ok more
      → IsWithin limits (with_nodes draft more)
  IsWithin-nodes beyond new same more =
      let with_count : (nodes : List (Kept Place)) → IsTrue (nat_le (length nodes) limits.nodes)
      → IsWithin limits (with_nodes draft nodes)
      = λ nodes few. record { nodes = few; ways = within.ways; segments = within.segments; members = within.members }
      in
      keep-has (λ nodes. IsWithin limits (with_nodes draft nodes)) same_place double beyond new draft.nodes more
      (with_count _ (as_many _ _ _ (length-with_tags new.id new.tags draft.nodes) within.nodes))
      (λ none. with_count _ (one_more draft.nodes new limits.nodes (room _ _ (sym same ∙ none))))

  -- ways and their segments do
  pub IsWithin-ways : (beyond : Option MapError) (new : Kept (List ℤ)) → beyond ≡ beyond_ways limits draft new.content
      → (more : List (Kept (List ℤ))) → keep same_nodes double beyond new draft.ways ≡ Ok more
      → IsWithin limits (with_ways draft more)
  IsWithin-ways beyond new same more =
      keep-has (λ ways. IsWithin limits (with_ways draft ways)) same_nodes double beyond new draft.ways more
      (record {
        nodes = within.nodes;
        ways = as_many _ _ _ (length-with_tags new.id new.tags draft.ways) within.ways;
        segments = as_many _ _ _ (total_of-with_tags segment_count new.id new.tags draft.ways) within.segments;
        members = within.members;
      })
      (λ none.
      let rooms = both_rooms (nat_lt (length draft.ways) limits.ways)
      (nat_le (segments_in draft.ways + segment_count new.content) limits.segments) _ _ (sym same ∙ none) in
      record {
        nodes = within.nodes;
        ways = one_more draft.ways new limits.ways rooms.0;
        segments = as_many _ _ _ (total_of-append segment_count draft.ways new) rooms.1;
        members = within.members;
      })

  -- relations and their members do
  pub IsWithin-relations : (beyond : Option MapError) (new : Kept (List Member))
      → beyond ≡ beyond_members limits draft new.content
      → (more : List (Kept (List Member))) → keep same_members double beyond new draft.relations ≡ Ok more
      → IsWithin limits (with_relations draft more)
  IsWithin-relations beyond new same more =
      let with_count : (relations : List (Kept (List Member)))
      → IsTrue (nat_le (members_in relations) limits.members)
      → IsWithin limits (with_relations draft relations)
      = λ relations few. record { nodes = within.nodes; ways = within.ways; segments = within.segments; members = few }
      in
      keep-has (λ relations. IsWithin limits (with_relations draft relations)) same_members double beyond new draft.relations more
      (with_count _ (as_many _ _ _ (total_of-with_tags length new.id new.tags draft.relations) within.members))
      (λ none. with_count _ (as_many _ _ _ (total_of-append length draft.relations new) (room _ _ (sym same ∙ none))))

-- a tag behind those of a way changes nothing of the limits
pub IsWithin-tagged : (limits : Limits) (draft : Draft) (way : ℕ) (k new : Kept (List ℤ)) → IsWithin limits draft
    → slice_get draft.ways way ≡ Some k
    → new.content ≡ k.content → IsWithin limits (with_ways draft (set draft.ways way new))
IsWithin-tagged limits draft way k new within at same = record {
  nodes = within.nodes;
  ways = as_many _ _ _ (length-set draft.ways way new) within.ways;
  segments = as_many _ _ _ (total_of-set segment_count draft.ways way k new at same) within.segments;
  members = within.members;
}
