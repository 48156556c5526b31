-- The tile of hills is one.
use Rattle.std.proofs.Common.{◌≡◌, ℕ, pos, ◌*◌, ◌-◌, List, [], ◌∷◌, length, Option, Some, true, refl, sym, ap, ◌∙◌, arith, length-append, suc-mul, false, None, Result, Err, is_some, map}
use Rattle.std.specs.List.{concat, range_with_len}
use Rattle.std.specs.Option.{unwrap_or}
use Rattle.std.proofs.lemmas.List.FromFn.{length-range_with_len}
use Rattle.grid_map.specs.Tile.{hgt_bytes, row_bytes, sample_bytes, sample_of}
use Rattle.hgt_tiles.specs.File.{steps_of}
use Rattle.hgt_tiles.specs.Name.{corner_of_name}
use Rattle.hgt_tiles.specs.Relief.{Relief}
use Rattle.hgt_tiles.specs.Tiles.{AddsTile, relief_at}
use Rattle.hgt_tiles.specs.declared.names.Corner.{Corner}
use Rattle.hgt_tiles.specs.declared.tile_file.TileError.{TileError}
use Rattle.hgt_tiles.specs.declared.tile_file.TileError.TheVariants.{Name, NoMemory, Size}
use Rattle.hgt_tiles.specs.declared.tile_set.Tiles.{Tiles}
use Rattle.made_routes.specs.Made.{HaveTileAlone}
use Rattle.made_routes.specs.Texts.{tile_name}

-- lists joined, each of which is so long
joined-size : (f : ℕ → List ℕ) (size : ℕ) (xs : List ℕ) → ((x : ℕ) → length (f x) ≡ size) → length (concat (map f xs)) ≡ length xs * size
joined-size f size [] each = omega arith
joined-size f size (x ∷ xs) each =
    let more = joined-size f size xs each in
    omega (arith, length-append (f x) (concat (map f xs)), each x, more, suc-mul (length xs) size)

-- so many lists joined, each of which is so long
lists-size : (f : ℕ → List ℕ) (size count : ℕ) → ((x : ℕ) → length (f x) ≡ size) →
    length (concat (map f (range_with_len 0 count))) ≡ count * size
lists-size f size count each =
    joined-size f size (range_with_len 0 count) each ∙ ap (λ n. n * size) (length-range_with_len 0 count)

-- a row has 1201 samples of two bytes
row-size : (seed row : ℕ) → length (row_bytes seed row) ≡ 2402
unfolding row_bytes
row-size seed row = lists-size (λ column. sample_bytes (sample_of seed row column)) 2 1201 (λ column. refl)

-- a tile has 1201 rows
tile-size : (seed : ℕ) → length (hgt_bytes seed) ≡ 2884802
unfolding hgt_bytes
tile-size seed = lists-size (λ place. row_bytes seed (1200 - place)) 2402 1201 (λ place. row-size seed (1200 - place))

-- the corner of the tile's name
tile-corner : corner_of_name tile_name ≡ Some (record { lon = pos 0; lat = pos 0 })
unfolding tile_name
tile-corner = refl

-- a test doesn't both pass and fail
differ : true ≡ false → ⊥
differ same = cc

-- the tile is refused for want of memory alone
pub tile-memory : {T : Type 0} (result : Result T TileError) (error : TileError) (name bytes : List ℕ) (seed : ℕ) → result ≡ Err error →
    name ≡ tile_name →
    bytes ≡ hgt_bytes seed → (result ≡ Err Name → is_some (corner_of_name name) ≡ false) →
    (result ≡ Err Size → is_some (steps_of (length bytes)) ≡ false) → error ≡ NoMemory
tile-memory result Name name bytes seed is name_is bytes_are no_corner no_steps =
    absurd (differ (sym (ap (λ n. is_some (corner_of_name n)) name_is ∙ ap is_some tile-corner) ∙ no_corner is))
tile-memory result Size name bytes seed is name_is bytes_are no_corner no_steps =
    absurd (differ (sym (ap (λ n. is_some (steps_of n)) (ap length bytes_are ∙ tile-size seed)) ∙ no_steps is))
tile-memory result NoMemory name bytes seed is name_is bytes_are no_corner no_steps = refl

-- what isn't there
none-is : {A : Type 0} (o : Option A) → is_some o ≡ false → o ≡ None
none-is None h = refl
none-is (Some x) h = absurd cc

-- the first tile is alone
pub first-alone : (old new : Tiles) (tile : Relief) → ((corner : Corner) → is_some (relief_at old corner) ≡ false) → AddsTile old new tile →
    HaveTileAlone tile new
first-alone old new tile empty adds =
    record {
      there = adds.this ∙ ap (λ o. Some (unwrap_or o tile)) (none-is (relief_at old tile.corner) (empty tile.corner));
      alone = λ corner other. adds.others corner other ∙ none-is (relief_at old corner) (empty corner);
    }
