-- The parts of a map's text, and the rows of a tile, one further.
use Rattle.std.proofs.Common.{ℕ, ◌≡◌, ◌+◌, ◌-◌, ◌<◌, ◌≤◌, List, [], ◌∷◌, ◌++◌, map, length, get_or, drop, Some, sym, ap, ◌∙◌, arith, slice_get, append_assoc, length-append}
use Rattle.std.specs.List.{range_with_len, concat}
use Rattle.std.proofs.lemmas.List.{append-nil, drop_more, drop_all, get_or_append_left, get_or-append_right, get_or-map, length-map}
use Rattle.std.proofs.lemmas.List.Folds.{concat-append}
use Rattle.std.proofs.lemmas.List.FromFn.{map-range_with_len_more, length-map-range_with_len, get_or-map-range_with_len}
use Rattle.std.proofs.lemmas.Option.{get_or_from_slice_get, slice_get_within}
use Rattle.grid_map.specs.declared.plan.Plan.{Plan}
use Rattle.grid_map.specs.declared.segment.GridSegment.{GridSegment}
use Rattle.grid_map.specs.Plan.{cells_of}
use Rattle.grid_map.specs.Segments.{numbers_of, segment_of, segments_of}
use Rattle.grid_map.specs.MapText.{last_part, node_part, parts_of, text_from, way_part}
use Rattle.grid_map.specs.Tile.{hgt_bytes, row_bytes, sample_bytes, sample_of}
use Rattle.grid_map.proofs.ListLemmas.{segments_of-at}

-- lists joined, with one more
concat-push : (xs : List (List ℕ)) (x : List ℕ) → concat (xs ++ x ∷ []) ≡ concat xs ++ x
concat-push xs x = concat-append xs (x ∷ []) ∙ ap (λ (l : List ℕ). concat xs ++ l) (append-nil x)

-- a text with what the first numbers give, and the text of the next one behind it
pub concat_range-more : (f : ℕ → List ℕ) (n : ℕ) (first mid new next : List ℕ) →
    mid ≡ first ++ concat (map f (range_with_len 0 n)) → new ≡ mid ++ next → next ≡ f n →
    new ≡ first ++ concat (map f (range_with_len 0 (n + 1)))
concat_range-more f n first mid new next before is more =
    let all : concat (map f (range_with_len 0 (n + 1))) ≡ concat (map f (range_with_len 0 n)) ++ f n =
    ap concat (map-range_with_len_more f 0 n n (omega arith)) ∙ concat-push (map f (range_with_len 0 n)) (f n) in
    is ∙ ap (λ (l : List ℕ). l ++ next) before ∙ append_assoc first (concat (map f (range_with_len 0 n))) next
    ∙ ap (λ (l : List ℕ). first ++ (concat (map f (range_with_len 0 n)) ++ l)) more ∙ ap (λ (l : List ℕ). first ++ l) (sym all)

-- how many parts there are
pub length-parts_of : (plan : Plan) → length (parts_of plan) ≡ cells_of plan + (length (segments_of plan) + 1)
length-parts_of plan =
    omega (
      arith,
      length-append (map (node_part plan) (range_with_len 0 (cells_of plan))) (map (way_part plan) (numbers_of plan) ++ last_part ∷ []),
      length-append (map (way_part plan) (numbers_of plan)) (last_part ∷ []),
      length-map-range_with_len (node_part plan) 0 (cells_of plan),
      length-map (numbers_of plan) (way_part plan),
      length-map (numbers_of plan) (segment_of plan),
    )

-- a part of a cell
pub part-node : (plan : Plan) (part : ℕ) → part < cells_of plan → get_or (parts_of plan) part [] ≡ node_part plan part
part-node plan part within =
    let short : part < length (map (node_part plan) (range_with_len 0 (cells_of plan))) =
    omega (arith, within, length-map-range_with_len (node_part plan) 0 (cells_of plan)) in
    get_or_append_left (map (node_part plan) (range_with_len 0 (cells_of plan))) (map (way_part plan) (numbers_of plan) ++ last_part ∷ [])
    [] part short
    ∙ get_or-map-range_with_len (node_part plan) 0 (cells_of plan) part part [] within (omega arith)

-- a part behind those of the cells
part-behind : (plan : Plan) (part : ℕ) → cells_of plan ≤ part →
    get_or (parts_of plan) part [] ≡ get_or (map (way_part plan) (numbers_of plan) ++ last_part ∷ []) (part - cells_of plan) []
part-behind plan part behind =
    get_or-append_right (map (node_part plan) (range_with_len 0 (cells_of plan))) (map (way_part plan) (numbers_of plan) ++ last_part ∷ [])
    (cells_of plan) part []
    (length-map-range_with_len (node_part plan) 0 (cells_of plan)) behind

-- the part of the segment at a place
pub part-way : (plan : Plan) (part place : ℕ) (segment : GridSegment) → cells_of plan ≤ part → place ≡ part - cells_of plan →
    slice_get (segments_of plan) place ≡ Some segment →
    (segment ≡ segment_of plan segment.k) × (get_or (parts_of plan) part [] ≡ way_part plan segment.k)
part-way plan part place segment behind is read =
    let at = segments_of-at plan place segment read in
    let number : at.k ≡ segment.k = ap (λ (s : GridSegment). s.k) at.is in
    let within : place < length (numbers_of plan) = slice_get_within (numbers_of plan) place at.k at.at in
    let short : place < length (map (way_part plan) (numbers_of plan)) =
    omega (arith, within, length-map (numbers_of plan) (way_part plan)) in (
      sym at.is ∙ ap (segment_of plan) number,
      part-behind plan part behind
          ∙ ap (λ (i : ℕ). get_or (map (way_part plan) (numbers_of plan) ++ last_part ∷ []) i []) (sym is)
          ∙ get_or_append_left (map (way_part plan) (numbers_of plan)) (last_part ∷ []) [] place short
          ∙ get_or-map (way_part plan) (numbers_of plan) place 0 [] within
          ∙ ap (way_part plan) (get_or_from_slice_get (numbers_of plan) place at.k 0 at.at ∙ number),
    )

-- the last part
pub part-last : (plan : Plan) (part : ℕ) → part ≡ cells_of plan + length (segments_of plan) → get_or (parts_of plan) part [] ≡ last_part
part-last plan part is =
    let count : length (map (way_part plan) (numbers_of plan)) ≡ part - cells_of plan =
    omega (arith, is, length-map (numbers_of plan) (way_part plan), length-map (numbers_of plan) (segment_of plan)) in
    part-behind plan part (omega (arith, is))
    ∙ get_or-append_right (map (way_part plan) (numbers_of plan)) (last_part ∷ []) (part - cells_of plan) (part - cells_of plan) [] count
    (omega arith)
    ∙ ap (λ (i : ℕ). get_or (last_part ∷ []) i []) (let e : part - cells_of plan - (part - cells_of plan) ≡ 0 = omega arith in e)

-- what was appended and what is still to come, one part further
pub text_from-more : (plan : Plan) (part : ℕ) (old new all : List ℕ) → part < length (parts_of plan) →
    new ≡ old ++ get_or (parts_of plan) part [] → old ++ text_from plan part ≡ all → new ++ text_from plan (part + 1) ≡ all
unfolding text_from
text_from-more plan part old new all within is before =
    ap (λ (l : List ℕ). l ++ concat (drop (part + 1) (parts_of plan))) is
    ∙ append_assoc old (get_or (parts_of plan) part []) (concat (drop (part + 1) (parts_of plan)))
    ∙ ap (λ (xs : List (List ℕ)). old ++ concat xs) (sym (drop_more (parts_of plan) part [] within))
    ∙ before

-- nothing comes behind the last part
pub text_from-end : (plan : Plan) (part : ℕ) (old all : List ℕ) → length (parts_of plan) ≤ part → old ++ text_from plan part ≡ all →
    old ≡ all
unfolding text_from
text_from-end plan part old all end is =
    sym (append-nil old) ∙ ap (λ (xs : List (List ℕ)). old ++ concat xs) (sym (drop_all part (parts_of plan) end)) ∙ is

-- bytes that were put behind others, and then the rest
pub put-before : (old next mid rest new : List ℕ) → mid ≡ old ++ next → new ≡ mid ++ rest → new ≡ old ++ (next ++ rest)
put-before old next mid rest new first more = more ∙ ap (λ (l : List ℕ). l ++ rest) first ∙ append_assoc old next rest

-- what a function gives for all numbers below another
all_below : (f : ℕ → List ℕ) (most n : ℕ) (first items : List ℕ) → most ≤ n → n ≤ most →
    items ≡ first ++ concat (map f (range_with_len 0 n)) → items ≡ first ++ concat (map f (range_with_len 0 most))
all_below f most n first items low high is =
    let same : n ≡ most = omega (arith, low, high) in
    is ∙ ap (λ (k : ℕ). first ++ concat (map f (range_with_len 0 k))) same

-- a row after its last sample
pub row_bytes-whole : (seed row n : ℕ) (first items : List ℕ) → 1201 ≤ n → n ≤ 1201 →
    items ≡ first ++ concat (map (λ column. sample_bytes (sample_of seed row column)) (range_with_len 0 n)) →
    items ≡ first ++ row_bytes seed row
unfolding row_bytes
row_bytes-whole seed row n first items low high is =
    all_below (λ column. sample_bytes (sample_of seed row column)) 1201 n first items low high is

-- a tile after its last row
pub hgt_bytes-whole : (seed n : ℕ) (items : List ℕ) → 1201 ≤ n → n ≤ 1201 →
    items ≡ concat (map (λ place. row_bytes seed (1200 - place)) (range_with_len 0 n)) → items ≡ hgt_bytes seed
unfolding hgt_bytes
hgt_bytes-whole seed n items low high is = all_below (λ place. row_bytes seed (1200 - place)) 1201 n [] items low high is
