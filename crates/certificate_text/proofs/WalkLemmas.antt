-- What is read of the walk of a line.
use Rattle.std.proofs.Common.{◌≡◌, ℕ, ◌<◌, List, [], ◌∷◌, ◌++◌, length, Some, None, refl, sym, ap, ◌∙◌, subst, arith, append_assoc, append-nil}
use Rattle.std.specs.List.{AllByRecursion}
use Rattle.std.proofs.lemmas.List.{flat_map_more}
use Rattle.overpass_graph.specs.Maps.{MapValue, IsMap}
use Rattle.certificate_text.specs.Lines.{link_text, walk_text, IsLink, AreLinks}
use Rattle.certificate_text.specs.Parts.{HasNo, Begins, Reads, ReadsAt}
use Rattle.certificate_text.proofs.ByteLemmas.{rest-same, some-none, no-append, word-same}
use Rattle.certificate_text.proofs.PartLemmas.{link-front, link-own, link-no}

-- ---- Walks

-- one more at the end
pub all-push : {A : Type 0} (P : A → Type 0) (xs : List A) (x : A) → AllByRecursion P xs → P x → AllByRecursion P (xs ++ x ∷ [])
all-push P [] x all here = (here, tt)
all-push P (y ∷ ys) x all here = (all.0, all-push P ys x all.1 here)

-- a walk's text is empty or begins with a space
walk-begins : (map : MapValue) (walk : List ℕ) → Begins 32 (walk_text map walk)
walk-begins map [] = tt
walk-begins map (l ∷ walk) = refl

-- a walk that was read of a text so far, where whatever walk the text is of, the rest is of what is left of it
pub record IsWalking (map : MapValue) (text walk rest : List ℕ) : Type 0 where
  pub so_far : text ≡ walk_text map walk ++ rest
  pub links : AreLinks map walk
  pub whole : (all : List ℕ) → AreLinks map all → text ≡ walk_text map all →
      (left : List ℕ) × (AreLinks map left × (rest ≡ walk_text map left))

-- at first all is left
pub walking-first : (map : MapValue) (text walk : List ℕ) → walk ≡ [] → IsWalking map text walk text
walking-first map text walk none =
    subst (λ w. IsWalking map text w text) (sym none)
    (record { so_far = refl; links = tt; whole = λ all are same. (all, (are, same)) })

-- what is left begins with a link
module _ (map : MapValue) (text walk rest named : List ℕ) (is : IsMap map) (so : IsWalking map text walk rest) (begins : rest ≡ 32 ∷ named) where
  -- the next link, and those after it
  next : (left : List ℕ) → AreLinks map left → rest ≡ walk_text map left →
      (link : ℕ) × ((more : List ℕ) × ((IsLink map link × AreLinks map more) × (named ≡ link_text map link ++ walk_text map more)))
  next [] are same = absurd (some-none 32 named (sym begins ∙ same))
  next (l ∷ left) are same =
      (l, (left, ((are.0, are.1), rest-same 32 32 named (link_text map l ++ walk_text map left) (sym begins ∙ same))))

  -- where no link is named, the text says no walk
  pub walking-lost : ReadsAt (link_text map) (IsLink map) named None → Reads (walk_text map) (AreLinks map) text None
  walking-lost none all are same =
      let left = so.whole all are same in
      let found = next left.0 left.1.0 left.1.1 in
      none found.0 (walk_text map found.1.0) found.1.1.0.0 found.1.1.1

  -- where one is, reading goes on behind it
  pub walking-next : (link : ℕ) (after longer : List ℕ) → ReadsAt (link_text map) (IsLink map) named (Some (link, after)) →
      longer ≡ walk ++ link ∷ [] → IsWalking map text longer after
  walking-next link after longer found longer_is =
      let step : List ℕ = 32 ∷ link_text map link in
      let here : rest ≡ step ++ after = begins ∙ ap (λ t. 32 ∷ t) found.1 in
      let more : walk_text map walk ++ step ≡ walk_text map (walk ++ link ∷ []) =
      flat_map_more (λ (l : ℕ). 32 ∷ link_text map l) [] walk link in
      subst (λ w. IsWalking map text w after) (sym longer_is)
      (record {
        so_far = so.so_far ∙ ap (λ t. walk_text map walk ++ t) here ∙ sym (append_assoc (walk_text map walk) step after)
            ∙ ap (λ t. t ++ after) more;
        links = all-push (IsLink map) walk link so.links found.0;
        whole = λ all are same.
            let left = so.whole all are same in
            let last = next left.0 left.1.0 left.1.1 in
            let both = link-front map link last.0 after (walk_text map last.1.0) is found.0 last.1.1.0.0 (sym found.1 ∙ last.1.1.1) in
            (last.1.0, (last.1.1.0.1, both.1));
      })

-- where something else is left, the text says no walk
pub walking-other : (map : MapValue) (text walk rest : List ℕ) → IsWalking map text walk rest → 0 < length rest →
    ((named : List ℕ) → rest ≡ 32 ∷ named → ⊥) → Reads (walk_text map) (AreLinks map) text None
walking-other map text walk rest so some other all are same =
    let left = so.whole all are same in by_left left.0 left.1.1
  where
    by_left : (left : List ℕ) → rest ≡ walk_text map left → ⊥
    by_left [] is = absurd (omega (arith, some, ap length is))
    by_left (l ∷ left) is = other (link_text map l ++ walk_text map left) is

-- where nothing is left, it says the walk
pub walking-last : (map : MapValue) (text walk rest : List ℕ) → IsWalking map text walk rest → length rest ≡ 0 →
    Reads (walk_text map) (AreLinks map) text (Some walk)
walking-last map text walk [] so none = (so.links, so.so_far ∙ append-nil (walk_text map walk))
walking-last map text walk (c ∷ rest) so none = absurd (omega (arith, none))

-- walks of one text are one
pub walk-own : (map : MapValue) (a b : List ℕ) → IsMap map → AreLinks map a → AreLinks map b → walk_text map a ≡ walk_text map b → a ≡ b
walk-own map [] [] is a_in b_in same = refl
walk-own map [] (m ∷ b) is a_in b_in same = absurd (some-none 32 (link_text map m ++ walk_text map b) (sym same))
walk-own map (l ∷ a) [] is a_in b_in same = absurd (some-none 32 (link_text map l ++ walk_text map a) same)
walk-own map (l ∷ a) (m ∷ b) is a_in b_in same =
    let both = word-same 32 (link_text map l) (link_text map m) (walk_text map a) (walk_text map b)
    (link-no map 32 l (omega arith) is a_in.0) (link-no map 32 m (omega arith) is b_in.0) (walk-begins map a) (walk-begins map b)
    (rest-same 32 32 (link_text map l ++ walk_text map a) (link_text map m ++ walk_text map b) same) in
    ap (λ n. n ∷ a) (link-own map l m is a_in.0 b_in.0 both.0) ∙ ap (λ t. m ∷ t) (walk-own map a b is a_in.1 b_in.1 both.1)

-- a walk's text has no line end
pub walk-no : (map : MapValue) (walk : List ℕ) → IsMap map → AreLinks map walk → HasNo 10 (walk_text map walk)
walk-no map [] is are = tt
walk-no map (l ∷ walk) is are = (
  (λ same. absurd cc),
  no-append 10 (link_text map l) (walk_text map walk) (link-no map 10 l (omega arith) is are.0)
      (walk-no map walk is are.1),
)
