-- Rows, and the elements that they stand for.
use Rattle.std.proofs.Common.{◌≡◌, ℕ, zero, suc, ◌+◌, ◌<◌, ◌≤◌, ℤ, List, [], ◌∷◌, ◌++◌, length, length-append, position, set, slice_get, Some, None, refl, sym, ap, ◌∙◌, subst, arith}
use Rattle.std.specs.List.{IsDistinct}
use Rattle.std.specs.Map.{keys_of, values_of}
use Rattle.std.specs.Ordering.{int_eq}
use Rattle.indexmap.specs.IndexMap.{insert_entry, set_value_at}
use Rattle.map_tables.specs.Kept.{Tag, Kept, ids_of, place_in, place_of_id, total_of, AreDifferent, AreDistinct}
use Rattle.map_tables.specs.Rows.{tags_in, kept_from, KeepsOthers, IsTable}
use Rattle.map_tables.specs.declared.table.Row.{Row}
use Rattle.map_tables.proofs.IdLemmas.{insert_entry-last, position-place_in, AreDifferent-distinct}
use Rattle.map_tables.proofs.ListLemmas.{one_item}
use Rattle.map_tables.proofs.KeptLemmas.{total_of-append, total_of-set}

-- as many rows stay where one is another
length-set_row : {R : Type 0} (entries : List (ℤ × R)) (i : ℕ) (row : R)
    → length (set_value_at entries i row) ≡ length entries
length-set_row [] i row = refl
length-set_row (entry ∷ entries) zero row = refl
length-set_row (entry ∷ entries) (suc i) row = ap suc (length-set_row entries i row)

-- what the index keeps with a new id goes last
pub insert_entry-new : {R : Type 0} (entries more : List (ℤ × R)) (given id : ℤ) (row : R) → given ≡ id
    → place_in id (keys_of entries) ≡ None → more ≡ insert_entry int_eq entries given row
    → more ≡ entries ++ (id, row) ∷ []
insert_entry-new entries more given id row same none put =
    put ∙ ap (λ n. insert_entry int_eq entries n row) same ∙ insert_entry-last entries id row none

module _ {C : Type 0} (lists : List (ℕ × List Tag)) where
  -- the ids of the elements are those of the rows
  pub ids_of-kept_from : (place : ℕ) (entries : List (ℤ × Row C))
      → ids_of (kept_from lists place entries) ≡ keys_of entries
  ids_of-kept_from place [] = refl
  ids_of-kept_from place (entry ∷ entries) = ap (λ ids. entry.0 ∷ ids) (ids_of-kept_from (suc place) entries)

  -- so no id is kept twice
  pub AreDistinct-kept_from : (entries : List (ℤ × Row C)) → IsDistinct int_eq (keys_of entries)
      → AreDistinct (kept_from lists 0 entries)
  AreDistinct-kept_from entries apart =
      subst AreDifferent (sym (ids_of-kept_from 0 entries)) (AreDifferent-distinct (keys_of entries) apart)

  -- and the index finds the places of ids
  pub place_of_id-kept_from : (entries : List (ℤ × Row C)) (given id : ℤ) → given ≡ id
      → position (int_eq given) (keys_of entries) ≡ place_of_id id (kept_from lists 0 entries)
  place_of_id-kept_from entries given id same =
      ap (λ n. position (int_eq n) (keys_of entries)) same ∙ position-place_in id (keys_of entries)
      ∙ ap (place_in id) (sym (ids_of-kept_from 0 entries))

  -- there are as many elements as rows
  pub kept_from_length : (place : ℕ) (entries : List (ℤ × Row C))
      → length (kept_from lists place entries) ≡ length entries
  kept_from_length place [] = refl
  kept_from_length place (entry ∷ entries) = ap suc (kept_from_length (suc place) entries)

  -- the id at a place is that of the element there
  pub kept_from-id : (place : ℕ) (entries : List (ℤ × Row C)) (i : ℕ) (id : ℤ) (k : Kept C)
      → slice_get (keys_of entries) i ≡ Some id → slice_get (kept_from lists place entries) i ≡ Some k → id ≡ k.id
  kept_from-id place [] i id k at stands = absurd cc
  kept_from-id place (entry ∷ entries) zero id k at stands =
      sym (one_item at) ∙ ap (λ (x : Kept C). x.id) (one_item stands)
  kept_from-id place (entry ∷ entries) (suc i) id k at stands = kept_from-id (suc place) entries i id k at stands

  -- the row at a place has what the element there consists of, and names the list of its tags
  pub kept_from-row : (place : ℕ) (entries : List (ℤ × Row C)) (i n : ℕ) (row : Row C) (k : Kept C) → n ≡ place + i
      → slice_get (values_of entries) i ≡ Some row → slice_get (kept_from lists place entries) i ≡ Some k
      → (row.content ≡ k.content) × (tags_in lists n row.list ≡ k.tags)
  kept_from-row place [] i n row k is at stands = absurd cc
  kept_from-row place (entry ∷ entries) zero n row k is at stands =
      let here : n ≡ place = omega (arith, is) in (
        ap (λ (r : Row C). r.content) (sym (one_item at)) ∙ ap (λ (x : Kept C). x.content) (one_item stands),
        ap (λ m. tags_in lists m row.list) here
            ∙ ap (λ (r : Row C). tags_in lists place r.list) (sym (one_item at))
            ∙ ap (λ (x : Kept C). x.tags) (one_item stands),
      )
  kept_from-row place (entry ∷ entries) (suc i) n row k is at stands =
      kept_from-row (suc place) entries i n row k (omega (arith, is)) at stands

  -- ---- Where the tags of one element are others

  module _ (new : List (ℕ × List Tag)) (p : ℕ) (others : KeepsOthers p lists new) where
    -- the elements behind it stay
    pub kept_from-behind : (place : ℕ) (entries : List (ℤ × Row C)) → p < place
        → kept_from new place entries ≡ kept_from lists place entries
    kept_from-behind place [] before = refl
    kept_from-behind place (entry ∷ entries) before =
        ap (λ tags. record { id = entry.0; content = entry.1.content; tags = tags } ∷ kept_from new (suc place) entries)
        (others place entry.1.list (λ same. absurd (omega (arith, before, same))))
        ∙ ap (λ ks. record { id = entry.0; content = entry.1.content; tags = tags_in lists place entry.1.list } ∷ ks)
        (kept_from-behind (suc place) entries (omega (arith, before)))

    -- and so do those before it
    pub kept_from-before : (place : ℕ) (entries : List (ℤ × Row C)) → place + length entries ≤ p
        → kept_from new place entries ≡ kept_from lists place entries
    kept_from-before place [] past = refl
    kept_from-before place (entry ∷ entries) past =
        ap (λ tags. record { id = entry.0; content = entry.1.content; tags = tags } ∷ kept_from new (suc place) entries)
        (others place entry.1.list (λ same. absurd (omega (arith, past, same))))
        ∙ ap (λ ks. record { id = entry.0; content = entry.1.content; tags = tags_in lists place entry.1.list } ∷ ks)
        (kept_from-before (suc place) entries (omega (arith, past)))

    -- another row at its place stands for another element of the same id there
    pub kept_from-set : (place : ℕ) (entries : List (ℤ × Row C)) (i : ℕ) (row : Row C) (k : Kept C) → p ≡ place + i
        → slice_get (kept_from lists place entries) i ≡ Some k
        → kept_from new place (set_value_at entries i row)
        ≡ set (kept_from lists place entries) i
        (record { id = k.id; content = row.content; tags = tags_in new p row.list })
    kept_from-set place [] i row k is stands = absurd cc
    kept_from-set place (entry ∷ entries) zero row k is stands =
        let here : p ≡ place = omega (arith, is) in
        ap (λ n. record { id = n; content = row.content; tags = tags_in new place row.list }
        ∷ kept_from new (suc place) entries) (ap (λ (x : Kept C). x.id) (one_item stands))
        ∙ ap (λ n. record { id = k.id; content = row.content; tags = tags_in new n row.list }
        ∷ kept_from new (suc place) entries) (sym here)
        ∙ ap (λ ks. record { id = k.id; content = row.content; tags = tags_in new p row.list } ∷ ks)
        (kept_from-behind (suc place) entries (omega (arith, here)))
    kept_from-set place (entry ∷ entries) (suc i) row k is stands =
        ap (λ tags. record { id = entry.0; content = entry.1.content; tags = tags }
        ∷ kept_from new (suc place) (set_value_at entries i row))
        (others place entry.1.list (λ same. absurd (omega (arith, is, same))))
        ∙ ap (λ ks. record { id = entry.0; content = entry.1.content; tags = tags_in lists place entry.1.list } ∷ ks)
        (kept_from-set (suc place) entries i row k (omega (arith, is)) stands)

    -- a row at the end stands for an element at the end
    pub kept_from-append : (place : ℕ) (entries : List (ℤ × Row C)) (id : ℤ) (row : Row C) → p ≡ place + length entries
        → kept_from new place (entries ++ (id, row) ∷ [])
        ≡ kept_from lists place entries
        ++ record { id = id; content = row.content; tags = tags_in new p row.list } ∷ []
    kept_from-append place [] id row is =
        let here : p ≡ place = omega (arith, is) in
        ap (λ n. record { id = id; content = row.content; tags = tags_in new n row.list } ∷ []) (sym here)
    kept_from-append place (entry ∷ entries) id row is =
        ap (λ tags. record { id = entry.0; content = entry.1.content; tags = tags }
        ∷ kept_from new (suc place) (entries ++ (id, row) ∷ []))
        (others place entry.1.list (λ same. absurd (omega (arith, is, same))))
        ∙ ap (λ ks. record { id = entry.0; content = entry.1.content; tags = tags_in lists place entry.1.list } ∷ ks)
        (kept_from-append (suc place) entries id row (omega (arith, is)))

    -- other tags of the element at a place are seen there alone
    pub kept_from-tags : (entries : List (ℤ × Row C)) (now : List (Kept C)) (row : Row C) (k : Kept C) (list : ℕ)
        (next : List Tag) → kept_from lists 0 entries ≡ now → slice_get (values_of entries) p ≡ Some row
        → slice_get now p ≡ Some k → tags_in new p list ≡ next
        → kept_from new 0 (set_value_at entries p (record { content = row.content; list = list }))
        ≡ set now p (record { id = k.id; content = k.content; tags = next })
    kept_from-tags entries now row k list next seen at stands same =
        let here : slice_get (kept_from lists 0 entries) p ≡ Some k = ap (λ ks. slice_get ks p) seen ∙ stands in
        kept_from-set 0 entries p (record { content = row.content; list = list }) k (omega arith) here
        ∙ ap (λ ks. set ks p (record { id = k.id; content = row.content; tags = tags_in new p list })) seen
        ∙ ap (λ c. set now p (record { id = k.id; content = c; tags = tags_in new p list }))
        (kept_from-row 0 entries p p row k (omega arith) at here).0
        ∙ ap (λ (tags : List Tag). set now p (record { id = k.id; content = k.content; tags = tags })) same

    -- ---- What holds of a table

    module _ (size : C → ℕ) (no_tags : List Tag) (total : ℕ) (entries : List (ℤ × Row C))
        (is : IsTable size lists no_tags total entries) where
      -- another row that consists of the same leaves it
      pub IsTable-set : (row : Row C) (k : Kept C) → slice_get (kept_from lists 0 entries) p ≡ Some k
          → row.content ≡ k.content → IsTable size new no_tags total (set_value_at entries p row)
      IsTable-set row k stands same = record {
        none = is.none;
        counted = is.counted ∙ sym (ap (total_of size) (kept_from-set 0 entries p row k (omega arith) stands)
            ∙ total_of-set size (kept_from lists 0 entries) p k
            (record { id = k.id; content = row.content; tags = tags_in new p row.list }) stands same);
        few = omega (arith, is.few, length-set_row entries p row);
      }

      -- and so does a row at the end, whose parts are counted
      pub IsTable-append : (id : ℤ) (row : Row C) (more : List (ℤ × Row C)) → more ≡ entries ++ (id, row) ∷ []
          → p ≡ length entries → length entries < 4294967295
          → IsTable size new no_tags (total + size row.content) more
      IsTable-append id row more last end room = record {
        none = is.none;
        counted = ap (λ n. n + size row.content) is.counted
            ∙ sym (ap (λ es. total_of size (kept_from new 0 es)) last
            ∙ ap (total_of size) (kept_from-append 0 entries id row (omega (arith, end)))
            ∙ total_of-append size (kept_from lists 0 entries)
            (record { id = id; content = row.content; tags = tags_in new p row.list }));
        few = omega (arith, room, ap length last, length-append entries ((id, row) ∷ []));
      }

      -- lists of no element change nothing
      pub IsTable-unchanged : length entries ≤ p → IsTable size new no_tags total entries
      IsTable-unchanged past = record {
        none = is.none;
        counted = is.counted ∙ sym (ap (total_of size) (kept_from-before 0 entries (omega (arith, past))));
        few = is.few;
      }
