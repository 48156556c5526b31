-- One tile, and the set that it is added to.
use Rattle.std.proofs.Common.{◌≡◌, ◌≢◌, ℕ, inl, inr, Bool, true, false, cond, List, [], ◌∷◌, ◌++◌, Option, Some, None, Ok, Err, IsNone, IsSome, ◌&&◌, length, refl, sym, ap, ◌∙◌, subst}
use Rattle.std.proofs.lemmas.Bool.Decides.{Decides-int_eq}
use Rattle.std.specs.List.{find}
use Rattle.std.specs.Option.{unwrap_or}
use Rattle.std.specs.Ordering.{int_eq}
use Rattle.edge_io.specs.Files.{FilesSeen}
use Rattle.hgt_tiles.proofs.CallerLemmas.{corner-same}
use Rattle.hgt_tiles.specs.File.{relief_by, relief_of_file, steps_of}
use Rattle.hgt_tiles.specs.Name.{corner_of_name}
use Rattle.hgt_tiles.specs.Relief.{Relief}
use Rattle.hgt_tiles.specs.Tiles.{AddsTile, relief_at}
use Rattle.hgt_tiles.specs.declared.names.Corner.{Corner}
use Rattle.hgt_tiles.specs.declared.tile_file.TileError.TheVariants as fault
use Rattle.hgt_tiles.specs.declared.tile_set.Tiles.{Tiles}
use Rattle.item_list.specs.Answer.{answer_map}
use Rattle.run_files.proofs.StageLemmas.{then-goes}
use Rattle.run_files.specs.Chain.{Settles}
use Rattle.run_files.specs.File.{TakesFile}
use Rattle.run_files.specs.Limits.{most_tile}
use Rattle.run_files.specs.Tiles.{AreTilesOf, TakesTile, same_corner, tile_in}
use Rattle.command_words.specs.Given.{Named}
use Rattle.run_files.specs.declared.status.Status.TheVariants.{Tile, NoMemory}

-- ---- The set

-- the first of a list that passes a test, or else the one behind it, if that does
abbrev or_last : {A : Type 0} → (A → Bool) → A → Option A → Option A
or_last test last (Some first) = Some first
or_last test last None = cond (test last) (Some last) None

-- the first that passes a test in a list with one more behind it
find-more : {A : Type 0} (test : A → Bool) (items : List A) (last : A) →
    find test (items ++ last ∷ []) ≡ or_last test last (find test items)
find-more test [] last = refl
find-more test (first ∷ rest) last = go (find-more test rest last) (test first)
  where
    go :
        find test (rest ++ last ∷ []) ≡ or_last test last (find test rest) → (b : Bool) →
        cond b (Some first) (find test (rest ++ last ∷ [])) ≡ or_last test last (cond b (Some first) (find test rest))
    go later true = refl
    go later false = later

-- both of two tests hold
both : (a b : Bool) → (a && b) ≡ true → (a ≡ true) × (b ≡ true)
both true b is = (refl, is)
both false b is = cc

-- two corners that the test calls one are one
corner-is_same : (a b : Corner) → same_corner a b ≡ true → a ≡ b
corner-is_same a b is =
    let tests = both (int_eq a.lon b.lon) (int_eq a.lat b.lat) is in
    corner-same a b ((Decides-int_eq a.lon b.lon).0 tests.0) ((Decides-int_eq a.lat b.lat).0 tests.1)

-- a corner is one with itself
corner-itself : (a : Corner) → same_corner a a ≡ true
corner-itself a = ap (λ b. b && int_eq a.lat a.lat) ((Decides-int_eq a.lon a.lon).1 refl) ∙ (Decides-int_eq a.lat a.lat).1 refl

-- a set without tiles is that of no relief
pub tiles-none : (tiles : Tiles) → ((corner : Corner) → IsNone (relief_at tiles corner)) → AreTilesOf [] tiles
tiles-none tiles empty = λ corner. none (relief_at tiles corner) (empty corner)
  where
    none : (found : Option Relief) → IsNone found → found ≡ None
    none None is = refl
    none (Some relief) is = cc

-- a tile that was added is the last relief
pub tiles-more : (reliefs : List Relief) (old new : Tiles) (relief : Relief) → AreTilesOf reliefs old → AddsTile old new relief →
    AreTilesOf (reliefs ++ relief ∷ []) new
tiles-more reliefs old new relief are adds = λ corner. at corner (same_corner relief.corner corner) refl
  where
    here : (found : Option Relief) → Some (unwrap_or found relief) ≡
        or_last (λ (r : Relief). same_corner r.corner relief.corner) relief found
    here (Some first) = refl
    here None = ap (λ b. cond b (Some relief) None) (sym (corner-itself relief.corner))

    there : (corner : Corner) (found : Option Relief) → same_corner relief.corner corner ≡ false →
        found ≡ or_last (λ (r : Relief). same_corner r.corner corner) relief found
    there corner (Some first) other = refl
    there corner None other = ap (λ b. cond b (Some relief) None) (sym other)

    differs : (corner : Corner) → same_corner relief.corner corner ≡ false → corner ≢ relief.corner
    differs corner other same =
        let is : same_corner relief.corner relief.corner ≡ false = subst (λ c. same_corner relief.corner c ≡ false) same other in
        let itself = corner-itself relief.corner in
        cc

    at : (corner : Corner) (same : Bool) → same_corner relief.corner corner ≡ same →
        relief_at new corner ≡ find (λ (r : Relief). same_corner r.corner corner) (reliefs ++ relief ∷ [])
    at corner true is =
        subst (λ c. relief_at new c ≡ find (λ (r : Relief). same_corner r.corner c) (reliefs ++ relief ∷ []))
        (corner-is_same relief.corner corner is)
        (adds.this ∙ here (relief_at old relief.corner)
        ∙ ap (or_last (λ (r : Relief). same_corner r.corner relief.corner) relief) (are relief.corner)
        ∙ sym (find-more (λ (r : Relief). same_corner r.corner relief.corner) reliefs relief))
    at corner false is =
        adds.others corner (differs corner is) ∙ there corner (relief_at old corner) is
        ∙ ap (or_last (λ (r : Relief). same_corner r.corner corner) relief) (are corner)
        ∙ sym (find-more (λ (r : Relief). same_corner r.corner corner) reliefs relief)

-- ---- One tile

-- a relief that was read is that of the file
pub tile-read : (word : ℕ) (name bytes read : List ℕ) (relief : Relief) → read ≡ name → relief_of_file read bytes ≡ Ok relief →
    tile_in word name bytes ≡ Ok relief
tile-read word name bytes read relief same is =
    subst (λ n. tile_in word n bytes ≡ Ok relief) same (ap (answer_map (λ (r : Relief). r) (Tile word)) is)

-- a file whose name gives no corner is refused
pub tile-nameless : (word told : ℕ) (name bytes read : List ℕ) → told ≡ word → read ≡ name → IsNone (corner_of_name read) →
    tile_in word name bytes ≡ Err (Tile told fault.Name)
tile-nameless word told name bytes read named same is =
    subst (λ n. tile_in word n bytes ≡ Err (Tile told fault.Name)) same
    (subst (λ (t : ℕ). tile_in word read bytes ≡ Err (Tile t fault.Name)) (sym named)
    (ap (answer_map (λ (r : Relief). r) (Tile word)) (go (corner_of_name read) is)))
  where
    go : (corner : Option Corner) → IsNone corner → relief_by corner (steps_of (length bytes)) bytes ≡ Err fault.Name
    go None is = refl
    go (Some corner) is = cc

-- bytes of another length than a tile has are refused
pub tile-size : (word told : ℕ) (name bytes read : List ℕ) → told ≡ word → read ≡ name →
    IsSome (corner_of_name read) × IsNone (steps_of (length bytes)) →
    tile_in word name bytes ≡ Err (Tile told fault.Size)
tile-size word told name bytes read named same is =
    subst (λ n. tile_in word n bytes ≡ Err (Tile told fault.Size)) same
    (subst (λ (t : ℕ). tile_in word read bytes ≡ Err (Tile t fault.Size)) (sym named)
    (ap (answer_map (λ (r : Relief). r) (Tile word)) (go (corner_of_name read) (steps_of (length bytes)) is.0 is.1)))
  where
    go : (corner : Option Corner) (steps : Option ℕ) → IsSome corner → IsNone steps → relief_by corner steps bytes ≡ Err fault.Size
    go None steps some none = cc
    go (Some corner) None some none = refl
    go (Some corner) (Some steps) some none = cc

-- ---- The stage

-- want of memory behind the stage of a tile is one in it
pub tile-no_memory : (file : Named) (old new : FilesSeen) (relief : Relief) → TakesTile file old new (Ok relief) →
    TakesTile file old new (Err NoMemory)
tile-no_memory file old new relief (inl stops) = let is = stops.answer in cc
tile-no_memory file old new relief (inr goes) =
    then-goes (TakesFile file most_tile) (λ bytes. Settles (tile_in file.word file.name bytes)) old goes.between new (Err NoMemory)
    goes.value goes.given
    (record { gives = inl refl; same = goes.rest.same })
