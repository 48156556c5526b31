-- The tree of a grid's map is valid.
use Rattle.std.proofs.Common.{◌≡◌, ℕ, suc, ◌+◌, ◌*◌, ◌^◌, ◌<◌, Bool, true, false, ◌&&◌, cond, List, [], ◌∷◌, ◌++◌, map, refl, arith}
use Rattle.std.specs.Prelude.{codes, ◌==◌}
use Rattle.std.proofs.lemmas.Bool.{and_parts}
use mathlib.Core.Bool.{false≢true}
use Rattle.grid_map.specs.declared.plan.Plan.{Plan}
use Rattle.grid_map.specs.MapText.{class_name}
use Rattle.grid_map.specs.Plan.{class_of, column_of, end_of, row_of, start_of}
use Rattle.json_text.specs.declared.mode.Bracket.TheVariants.{Curly, Square}
use Rattle.json_text.specs.declared.mode.Lead.{Lead}
use Rattle.json_text.specs.declared.mode.Lead.TheVariants as lead_
use Rattle.json_text.specs.Bytes.{lead_of}
use Rattle.json_text.specs.Chars.{AreChars, Follow}
use Rattle.json_text.specs.Grammar.{AreEntries, AreOthers, IsName, IsValue, Value}
use Rattle.made_routes.proofs.NumberFacts.{AllOf}
use Rattle.made_routes.proofs.NumberLemmas.{decimal-number, mil6-number}
use Rattle.made_routes.proofs.Trees.{behind, elements_of, key, listed, map_tree, node_tree, plain, way_tree}

-- ---- Plain texts

-- a byte that is a character by itself
abbrev is_whole : Lead → Bool
is_whole lead_.Whole = true
is_whole _ = false

-- bytes each of which is
abbrev are_whole : List ℕ → Bool
are_whole [] = true
are_whole (b ∷ bytes) = is_whole (lead_of b) && are_whole bytes

-- nothing follows such a byte
whole-follow : (lead : Lead) → is_whole lead ≡ true → Follow lead []
whole-follow lead_.Whole h = refl
whole-follow lead_.Nothing h = absurd (false≢true h)
whole-follow lead_.Quote h = absurd (false≢true h)
whole-follow lead_.Backslash h = absurd (false≢true h)
whole-follow (lead_.Longer tail) h = absurd (false≢true h)

-- such bytes are characters
plain-valid : (bytes : List ℕ) → are_whole bytes ≡ true → AreChars (plain bytes)
plain-valid [] h = tt
plain-valid (b ∷ bytes) h =
    let parts : (is_whole (lead_of b) ≡ true) × (are_whole bytes ≡ true) = and_parts _ _ h in
    (whole-follow (lead_of b) parts.0, plain-valid bytes parts.1)

-- what holds of both sides holds of a choice
pub either : (P : List ℕ → Type 0) (b : Bool) (x y : List ℕ) → P x → P y → P (cond b x y)
either P true x y first second = first
either P false x y first second = second

-- the name of a class is plain
class-plain : (class : ℕ) → AreChars (plain (class_name class))
unfolding class_name
class-plain class =
    either (λ (s : List ℕ). AreChars (plain s)) (class == 0) _ _ (plain-valid (codes "residential") refl)
    (either (λ (s : List ℕ). AreChars (plain s)) (class == 1) _ _ (plain-valid (codes "primary") refl)
    (either (λ (s : List ℕ). AreChars (plain s)) (class == 2) _ _ (plain-valid (codes "track") refl) (plain-valid (codes "cycleway") refl)))

-- ---- Elements

-- the tree of a cell is valid, where its column and its row are below a thousand
pub node-valid : (plan : Plan) (cell room : ℕ) → cell + 1 < 2 ^ 64 → column_of plan cell < 1000 → row_of plan cell < 1000 →
    IsValue (node_tree plan cell) (suc room)
node-valid plan cell room few column row =
    let name : (word : List ℕ) → are_whole word ≡ true → IsName Curly (key word) = λ word whole. (plain-valid word whole, tt, tt) in (
      tt,
      name (codes "type") refl,
      plain-valid (codes "node") refl,
      (
        tt,
        tt,
        name (codes "id") refl,
        decimal-number (cell + 1) (omega arith) few,
        (
          tt,
          tt,
          name (codes "lat") refl,
          mil6-number (1000 * row_of plan cell) (omega (arith, row)),
          (tt, tt, name (codes "lon") refl, mil6-number (1000 * column_of plan cell) (omega (arith, column)), tt),
        ),
      ),
    )

-- the tree of a segment is valid
pub way-valid : (plan : Plan) (k room : ℕ) → k + 1 < 2 ^ 64 → start_of k + 1 < 2 ^ 64 → end_of plan k + 1 < 2 ^ 64 →
    IsValue (way_tree plan k) (suc (suc room))
way-valid plan k room few start end =
    let name : (word : List ℕ) → are_whole word ≡ true → IsName Curly (key word) = λ word whole. (plain-valid word whole, tt, tt) in (
      tt,
      name (codes "type") refl,
      plain-valid (codes "way") refl,
      (
        tt,
        tt,
        name (codes "id") refl,
        decimal-number (k + 1) (omega arith) few,
        (
          tt,
          tt,
          name (codes "nodes") refl,
          (
            tt,
            tt,
            decimal-number (start_of k + 1) (omega arith) start,
            (tt, tt, tt, decimal-number (end_of plan k + 1) (omega arith) end, tt),
          ),
          (tt, tt, name (codes "tags") refl, (tt, name (codes "highway") refl, class-plain (class_of plan.seed k), tt), tt),
        ),
      ),
    )

-- ---- The whole

-- each of these values is valid
abbrev pub AreValid : List Value → ℕ → Type 0
AreValid [] room = Unit {0}
AreValid (value ∷ values) room = IsValue value room × AreValid values room

-- so are lists of them, one behind the other
pub valid-append : (values others : List Value) (room : ℕ) → AreValid values room → AreValid others room → AreValid (values ++ others) room
valid-append [] others room first second = second
valid-append (value ∷ values) others room first second = (first.0, valid-append values others room first.1 second)

-- items behind another one are valid
behind-valid : (values : List Value) (room : ℕ) → AreValid values room → AreOthers (behind values) Square room
behind-valid [] room valid = (refl, tt)
behind-valid (value ∷ values) room valid = (tt, (refl, tt), tt, valid.0, behind-valid values room valid.1)

-- items are valid
listed-valid : (values : List Value) (room : ℕ) → AreValid values room → AreEntries (listed values) Square room
listed-valid [] room valid = (refl, tt)
listed-valid (value ∷ values) room valid = ((refl, tt), tt, valid.0, behind-valid values room valid.1)

-- the values of numbers are valid where each is
pub valid-each : (f : ℕ → Value) (P : ℕ → Type 0) (room : ℕ) → ((x : ℕ) → P x → IsValue (f x) room) → (xs : List ℕ) → AllOf P xs →
    AreValid (map f xs) room
valid-each f P room each [] all = tt
valid-each f P room each (x ∷ xs) all = (each x all.0, valid-each f P room each xs all.1)

-- the tree of a grid's map is valid where those of its elements are
pub map-valid : (plan : Plan) → AreValid (elements_of plan) 62 → IsValue (map_tree plan) 64
map-valid plan valid = (tt, (plain-valid (codes "elements") refl, tt, tt), listed-valid (elements_of plan) 62 valid, tt)
