-- Tags are read one by one.
use Rattle.std.proofs.Common.{◌≡◌, ℕ, List, [], ◌∷◌, ◌++◌, Bool, true, false, Option, Some, None, refl, sym, ap, ◌∙◌, subst, append_assoc, Bor, cond, ◌||◌, ◌&&◌, not, nat_eq, arith}
use Rattle.std.specs.Prelude.{if◌then◌else◌}
use Rattle.std.specs.HashSet.{HashSet, contains}
use Rattle.std.specs.Str.{bytes_eq}
use Rattle.std.proofs.lemmas.Bool.Decides.{nat_tests}
use lib.Pointwise.{pointwise}
use mathlib.Core.Bool.{false≢true}
use Rattle.map_tables.specs.Kept.{Tag}
use Rattle.map_elements.specs.Entries.{Entry}
use Rattle.map_elements.specs.Fields.{with_some, is_among, text_of, tags_from}
use Rattle.map_elements.specs.Names.{Have, Holds, has_tag}

-- all members come to these tags and what those that are left come to, behind the names that came so far
pub record Tagged (Came : List (List ℕ) → Type 0) (all : List Entry) (done : List Tag) (left : List Entry) : Type 0 where
  pub names : List (List ℕ)
  pub holds : Came names
  pub reads : tags_from [] all ≡ with_some (tags_from names left) (λ more. Some (done ++ more))

-- ---- Names

-- two numbers are equal either way round
nat_turned : (m n : ℕ) → nat_eq m n ≡ nat_eq n m
nat_turned m n = grind (arith, nat_tests)

-- so are two texts
bytes_turned : (xs ys : List ℕ) → bytes_eq xs ys ≡ bytes_eq ys xs
bytes_turned [] [] = refl
bytes_turned [] (y ∷ ys) = refl
bytes_turned (x ∷ xs) [] = refl
bytes_turned (x ∷ xs) (y ∷ ys) = ap (λ v. v && bytes_eq xs ys) (nat_turned x y) ∙ ap (λ v. nat_eq y x && v) (bytes_turned xs ys)

-- one holds, or the other
either : (v x : Bool) → cond v true x ≡ (v || x)
either true x = refl
either false x = refl

-- of two that hold or don't, the order doesn't matter
swapped : (u v x : Bool) → (u || (v || x)) ≡ (v || (u || x))
swapped true true x = refl
swapped true false x = refl
swapped false v x = refl

-- a set to which a name is added holds it too
pub Holds-add : {S : Type 0} (old new : HashSet (Bor (List ℕ)) S) (name : Bor (List ℕ)) (seen : List (List ℕ)) →
    ((q : Bor (List ℕ)) → contains (λ x y. pointwise nat_eq x.now y.now) new q
    ≡ cond (pointwise nat_eq name.now q.now) true (contains (λ x y. pointwise nat_eq x.now y.now) old q)) →
    Holds old seen → Holds new (name.now ∷ seen)
Holds-add old new name seen updates h = λ q.
    updates q
    ∙ either (bytes_eq name.now q.now) (contains (λ x y. pointwise nat_eq x.now y.now) old q)
    ∙ ap (λ v. v || contains (λ x y. pointwise nat_eq x.now y.now) old q) (bytes_turned name.now q.now)
    ∙ ap (λ v. bytes_eq q.now name.now || v) (h q)

-- a tag behind tags has a name, or one of those does
has_tag-add : (tags : List Tag) (tag : Tag) (name : List ℕ) → has_tag name (tags ++ tag ∷ []) ≡ (bytes_eq tag.0 name || has_tag name tags)
has_tag-add [] tag name = refl
has_tag-add (t ∷ tags) tag name =
    ap (λ v. bytes_eq t.0 name || v) (has_tag-add tags tag name) ∙ swapped (bytes_eq t.0 name) (bytes_eq tag.0 name) (has_tag name tags)

-- tags to which one is added have its name too
pub Have-add : (tags : List Tag) (tag : Tag) (names : List (List ℕ)) → Have tags names → Have (tags ++ tag ∷ []) (tag.0 ∷ names)
Have-add tags tag names have = λ name.
    has_tag-add tags tag name
    ∙ ap (λ v. v || has_tag name tags) (bytes_turned tag.0 name)
    ∙ ap (λ v. bytes_eq name tag.0 || v) (have name)

-- ---- Tags

-- one goes before what the others come to
cons_some : (done : List Tag) (tag : Tag) (more : Option (List Tag)) →
    with_some (with_some more (λ tags. Some (tag ∷ tags))) (λ more. Some (done ++ more)) ≡
    with_some more (λ more. Some ((done ++ tag ∷ []) ++ more))
cons_some done tag None = refl
cons_some done tag (Some more) = ap (λ l. Some l) (sym (append_assoc done (tag ∷ []) more))

-- what isn't so is false
not_true : (v : Bool) → not v ≡ true → v ≡ false
not_true true e = absurd (false≢true e)
not_true false e = refl

-- what a member does whose name is new
abbrev pub tag_by : List (List ℕ) → List Entry → List ℕ → Option (List ℕ) → Option (List Tag)
tag_by names left name text = with_some text (λ text. with_some (tags_from (name ∷ names) left) (λ tags. Some ((name, text) ∷ tags)))

-- the tag of a member whose name is new goes behind the others
module _ (Came Comes : List (List ℕ) →
    Type 0) (all left before : List Entry) (done after : List Tag) (entry : Entry) (name text : List ℕ) where
  pub Tagged-new : (h : Tagged Came all done before) → before ≡ entry ∷ left → entry.name ≡ Some name → not (is_among name h.names) ≡ true →
      Comes (name ∷ h.names) → text_of entry.value ≡ Some text → after ≡ done ++ (name, text) ∷ [] → Tagged Comes all after left
  Tagged-new h is named new holds texted pushed =
      let read : tags_from h.names before ≡ with_some (tags_from (name ∷ h.names) left) (λ tags. Some ((name, text) ∷ tags)) =
      ap (tags_from h.names) is
      ∙ ap (λ o. with_some o (λ n. if is_among n h.names then tags_from h.names left else tag_by h.names left n (text_of entry.value)))
      named
      ∙ ap (λ v. if v then tags_from h.names left else tag_by h.names left name (text_of entry.value))
      (not_true (is_among name h.names) new)
      ∙ ap (tag_by h.names left name) texted in
      record {
        names = name ∷ h.names;
        holds = holds;
        reads = h.reads
            ∙ ap (λ o. with_some o (λ more. Some (done ++ more))) read
            ∙ cons_some done (name, text) (tags_from (name ∷ h.names) left)
            ∙ ap (λ (d : List Tag). with_some (tags_from (name ∷ h.names) left) (λ more. Some (d ++ more))) (sym pushed);
      }

-- the same where the names are compared with those of the tags
module _ (all left before : List Entry) (done after : List Tag) (entry : Entry) (name text : List ℕ) where
  pub Tagged-few : (h : Tagged (Have done) all done before) → before ≡ entry ∷ left → entry.name ≡ Some name → has_tag name done ≡ false →
      text_of entry.value ≡ Some text → after ≡ done ++ (name, text) ∷ [] → Tagged (Have after) all after left
  Tagged-few h is named new texted pushed =
      Tagged-new (Have done) (Have after) all left before done after entry name text h is named
      (ap not (sym (h.holds name) ∙ new))
      (subst (λ tags. Have tags (name ∷ h.names)) (sym pushed) (Have-add done (name, text) h.names h.holds))
      texted pushed
