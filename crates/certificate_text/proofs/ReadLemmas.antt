-- Texts that are read line after line.
use Rattle.std.proofs.Common.{◌≡◌, ℕ, ◌+◌, ◌^◌, ◌<◌, ◌≤◌, true, false, List, [], ◌∷◌, ◌++◌, length, nat_eq, map, None, Result, Ok, Err, refl, sym, ap, ◌∙◌, subst, arith, append_assoc, append-nil}
use Rattle.std.specs.Prelude.{IfOk, codes}
use Rattle.std.specs.List.{AllByRecursion}
use Rattle.std.proofs.lemmas.Bool.{ne_eqb}
use Rattle.std.proofs.lemmas.List.{length-append}
use Rattle.overpass_graph.specs.Maps.{MapValue}
use Rattle.certificate_text.specs.declared.certificate.Certificate.{Certificate}
use Rattle.certificate_text.specs.declared.certificate.Entry.{Entry}
use Rattle.certificate_text.specs.declared.error.CertError.{CertError}
use Rattle.certificate_text.specs.declared.certificate.LowerBound.{LowerBound}
use Rattle.certificate_text.specs.declared.draft.Draft.{Draft}
use Rattle.certificate_text.specs.declared.draft.Place.{Place}
use Rattle.certificate_text.specs.declared.draft.Place.TheVariants as place_
use Rattle.certificate_text.specs.Drafts.{begun, stage_at, forms_at, forms_now, is_ended, IsRead, ReadsOn, IsReading}
use Rattle.certificate_text.specs.Lines.{Form, Head, Leg, Cost, Label, End, head_text, line_of, lines_of, link_text, walk_text, IsForm, IsEntry, Unbegun, Opened, Ended, Stands, AreStanding, stage_from, IsFirstFault}
use Rattle.certificate_text.specs.Parts.{ReadsTo}
use Rattle.certificate_text.specs.Texts.{CertificateValue, LegValue, leg_of, leg_forms, legs_forms, labels_of, forms_of, certificate_text, legs_of, AreLegs, IsTextOf, AreShort, ReadsText}
use Rattle.certificate_text.proofs.NumberLemmas.{not-both}
use Rattle.certificate_text.proofs.LineLemmas.{lines-append, line-some, standing-push, stage-push, standing-fits}

-- ---- While lines are read

-- the first line was read
pub reading-first : (map : MapValue) (text : List ℕ) (bound : LowerBound) (number : ℕ) (draft : Draft) → forms_now draft ≡ [] →
    stage_at draft.place ≡ Opened → number ≡ 2 → length text + 2 < 2 ^ 32 →
    IsReading map (lines_of map (Head bound ∷ []) ++ text) bound number text draft
reading-first map text bound number draft none place number_is few =
    let forms : begun bound draft ≡ Head bound ∷ [] = ap (λ fs. Head bound ∷ fs) none in
    record {
      text_is = ap (λ fs. lines_of map fs ++ text) (sym forms);
      number_is = number_is ∙ ap (λ (fs : List Form). length fs + 1) (sym forms);
      standing = subst (AreStanding map Unbegun) (sym forms) (tt, (tt, tt));
      stage = ap (stage_from Unbegun) forms ∙ sym place;
      few = omega (arith, few, number_is);
    }

-- the first line of what is left is read
module _ (map : MapValue) (text : List ℕ) (bound : LowerBound) (number : ℕ) (rest : List ℕ) (draft new : Draft)
    (so : IsReading map text bound number rest draft) where
  -- less is left
  pub read-shorter : (after : List ℕ) → IsRead map draft new rest after → length after < length rest
  read-shorter after read =
      omega (arith, ap length read.text_is, length-append (line_of map read.form) (10 ∷ after))

  -- where it is taken, reading goes on behind it
  pub reading-next : (after : List ℕ) (next : ℕ) → IsRead map draft new rest after → next ≡ number + 1 →
      IsReading map text bound next after new
  reading-next after next read next_is =
      let forms : begun bound new ≡ begun bound draft ++ (read.form ∷ []) = ap (λ fs. Head bound ∷ fs) read.taken.forms in
      let here : rest ≡ lines_of map (read.form ∷ []) ++ after =
      read.text_is ∙ sym (append_assoc (line_of map read.form) (10 ∷ []) after) in
      let stands : Stands (stage_from Unbegun (begun bound draft)) read.form =
      subst (λ s. Stands s read.form) (sym so.stage) read.taken.stands in
      let count : length (begun bound new) ≡ length (begun bound draft) + 1 =
      ap length forms ∙ length-append (begun bound draft) (read.form ∷ []) in
      record {
        text_is = so.text_is ∙ ap (λ t. lines_of map (begun bound draft) ++ t) here
            ∙ sym (append_assoc (lines_of map (begun bound draft)) (lines_of map (read.form ∷ [])) after)
            ∙ ap (λ t. t ++ after) (sym (lines-append map (begun bound draft) (read.form ∷ [])) ∙ ap (lines_of map) (sym forms));
        number_is = omega (arith, next_is, so.number_is, count);
        standing = subst (AreStanding map Unbegun) (sym forms)
            (standing-push map Unbegun (begun bound draft) read.form so.standing stands read.fits);
        stage = ap (stage_from Unbegun) forms ∙ stage-push Unbegun (begun bound draft) read.form ∙ sym read.taken.place;
        few = omega (arith, so.few, next_is, read-shorter after read);
      }

  -- where no line that can stand there begins it, it is the first at fault
  pub reading-fault : 0 < length rest → ReadsOn map draft new rest None → IsFirstFault map text number
  reading-fault some none = record {
    before = begun bound draft;
    rest = rest;
    text_is = so.text_is;
    number = so.number_is;
    standing = so.standing;
    fault = λ form more stands fits same. none form more (subst (λ s. Stands s form) so.stage stands) fits same;
    open_end = λ empty ended. absurd (omega (arith, some, ap length empty));
  }

-- the last line was taken
ended : (p : Place) → is_ended p ≡ true → p ≡ place_.Ended
ended place_.Opened test = absurd cc
ended place_.Walked test = absurd cc
ended place_.Labelled test = absurd cc
ended place_.Ended test = refl

-- a draft that says that the last line stands before is ended
is-ended : (p : Place) → stage_at p ≡ Ended → is_ended p ≡ true
is-ended place_.Opened test = absurd cc
is-ended place_.Walked test = absurd cc
is-ended place_.Labelled test = absurd cc
is-ended place_.Ended test = refl

-- where nothing is left before the last line, the next line is at fault
pub reading-short : (map : MapValue) (text : List ℕ) (bound : LowerBound) (number : ℕ) (rest : List ℕ) (draft : Draft) →
    IsReading map text bound number rest draft → rest ≡ [] → (is_ended draft.place ≡ true → ⊥) → IsFirstFault map text number
reading-short map text bound number rest draft so empty other = record {
  before = begun bound draft;
  rest = rest;
  text_is = so.text_is;
  number = so.number_is;
  standing = so.standing;
  fault = λ form more stands fits same. line-some (line_of map form) more (sym same ∙ empty);
  open_end = λ none last. other (is-ended draft.place (sym so.stage ∙ last));
}

-- ---- Legs that are told by lines

-- what is so of two lists is so of the second
all-behind : {A : Type 0} (P : A → Type 0) (xs ys : List A) → AllByRecursion P (xs ++ ys) → AllByRecursion P ys
all-behind P [] ys all = all
all-behind P (x ∷ xs) ys all = all-behind P xs ys all.1

-- and of the first
all-before : {A : Type 0} (P : A → Type 0) (xs ys : List A) → AllByRecursion P (xs ++ ys) → AllByRecursion P xs
all-before P [] ys all = tt
all-before P (x ∷ xs) ys all = (all.0, all-before P xs ys all.1)

-- labels whose lines may be written may be
labels-fit : (map : MapValue) (entries : List Entry) → AllByRecursion (IsForm map) (labels_of entries) → AllByRecursion (IsEntry map) entries
labels-fit map [] all = tt
labels-fit map (e ∷ entries) all = (all.0, labels-fit map entries all.1)

-- so may legs
legs-fit : (map : MapValue) (legs : List LegValue) → AllByRecursion (IsForm map) (legs_forms legs) → AreLegs map legs
legs-fit map [] all = tt
legs-fit map (leg ∷ legs) all =
    let behind = all-behind (IsForm map) (leg_forms leg) (legs_forms legs) all in
    let here = all-before (IsForm map) (leg_forms leg) (legs_forms legs) all in
    (record { walk = here.0; cost = here.1.0; entries = labels-fit map leg.entries here.1.1 }, legs-fit map legs behind)

-- the legs of a draft
abbrev draft_legs : Draft → List LegValue
draft_legs draft = map leg_of draft.legs.items

-- what a draft says that was read to its end
abbrev drafted : LowerBound → Draft → CertificateValue
drafted bound draft = record { bound = bound; legs = draft_legs draft }

-- a text that is read to its end is that of a certificate
pub reading-whole : (map : MapValue) (text : List ℕ) (bound : LowerBound) (number : ℕ) (rest : List ℕ) (draft : Draft) →
    IsReading map text bound number rest draft → rest ≡ [] → is_ended draft.place ≡ true → IsTextOf map text (drafted bound draft)
unfolding certificate_text
reading-whole map text bound number rest draft so empty last =
    let legs = draft_legs draft in
    let forms : begun bound draft ≡ forms_of (drafted bound draft) =
    ap (λ p. Head bound ∷ forms_at p legs (leg_of draft.leg)) (ended draft.place last) in
    let all = standing-fits map Unbegun (forms_of (drafted bound draft)) (subst (AreStanding map Unbegun) forms so.standing) in
    record {
      legs_are = legs-fit map legs (all-before (IsForm map) (legs_forms legs) (End ∷ []) all.1);
      text_is = so.text_is ∙ ap (λ t. lines_of map (begun bound draft) ++ t) empty ∙ append-nil (lines_of map (begun bound draft))
          ∙ ap (lines_of map) forms;
    }

-- a text that doesn't begin with a first line
pub headless : (map : MapValue) (text : List ℕ) → ReadsTo 10 head_text (λ _. Unit {0}) text None → IsFirstFault map text 1
headless map text other = record {
  before = [];
  rest = text;
  text_is = refl;
  number = refl;
  standing = tt;
  fault = λ form more stands fits same. by_form form more stands same;
  open_end = λ empty ended. absurd cc;
}
  where
    by_form : (form : Form) (more : List ℕ) → Stands Unbegun form → text ≡ line_of map form ++ (10 ∷ more) → ⊥
    by_form (Head bound) more stands same = other bound more tt same
    by_form (Leg walk) more stands same = stands
    by_form (Cost cost) more stands same = stands
    by_form (Label entry) more stands same = stands
    by_form End more stands same = stands

-- a list that is told to be empty is
pub none-told : (xs : List ℕ) → true ≡ nat_eq (length xs) 0 → xs ≡ []
none-told [] test = refl
none-told (x ∷ xs) test =
    absurd (not-both (nat_eq (length (x ∷ xs)) 0) (ne_eqb (length (x ∷ xs)) 0 (λ h. absurd (omega (arith, h)))) (sym test))

-- a list that is told not to be empty has an item
pub some-told : (xs : List ℕ) → false ≡ nat_eq (length xs) 0 → 0 < length xs
some-told [] test = absurd cc
some-told (x ∷ xs) test = omega arith

-- ---- Walks that a text tells are short

-- a walk has no more links than its text has bytes
walk-length : (map : MapValue) (walk : List ℕ) → length walk ≤ length (walk_text map walk)
walk-length map [] = omega arith
walk-length map (l ∷ walk) = omega (arith, walk-length map walk, length-append (link_text map l) (walk_text map walk))

-- nor more than the line that tells it
leg-length : (map : MapValue) (walk : List ℕ) → length walk ≤ length (line_of map (Leg walk))
leg-length map walk = omega (arith, walk-length map walk, length-append (codes "leg") (walk_text map walk))

-- lines behind a line take no more room than both
line-length : (map : MapValue) (f : Form) (fs : List Form) →
    length (line_of map f) + length (lines_of map fs) ≤ length (lines_of map (f ∷ fs))
line-length map f fs = omega (arith, length-append (line_of map f) (10 ∷ lines_of map fs))

-- lines behind labels take no more room than both
labels-length : (map : MapValue) (entries : List Entry) (fs : List Form) →
    length (lines_of map fs) ≤ length (lines_of map (labels_of entries ++ fs))
labels-length map [] fs = omega arith
labels-length map (e ∷ entries) fs =
    omega (arith, labels-length map entries fs, line-length map (Label e) (labels_of entries ++ fs))

-- so the walks of legs are short where their lines are
legs-short : (map : MapValue) (legs : List LegValue) (more : List Form) → length (lines_of map (legs_forms legs ++ more)) < 2 ^ 32 →
    AreShort legs
legs-short map [] more few = tt
legs-short map (leg ∷ legs) more few =
    let later : List Form = legs_forms legs ++ more in
    let behind : (labels_of leg.entries ++ legs_forms legs) ++ more ≡ labels_of leg.entries ++ later =
    append_assoc (labels_of leg.entries) (legs_forms legs) more in
    let first = line-length map (Leg leg.walk) (Cost leg.cost ∷ ((labels_of leg.entries ++ legs_forms legs) ++ more)) in
    let second = line-length map (Cost leg.cost) ((labels_of leg.entries ++ legs_forms legs) ++ more) in
    let labels = labels-length map leg.entries later in
    let same : length (lines_of map ((labels_of leg.entries ++ legs_forms legs) ++ more))
    ≡ length (lines_of map (labels_of leg.entries ++ later)) = ap (λ fs. length (lines_of map fs)) behind in
    (omega (arith, few, first, leg-length map leg.walk), legs-short map legs more (omega (arith, few, first, second, labels, same)))

-- what is read of a short text is short
pub read-short : (map : MapValue) (text : List ℕ) (r : Result Certificate CertError) → ReadsText map text r → length text < 2 ^ 32 →
    IfOk r (λ certificate. AreShort (legs_of certificate))
unfolding certificate_text
read-short map text (Ok certificate) reads few =
    legs-short map (legs_of certificate) (End ∷ [])
    (omega (arith, few, ap length reads.text_is, line-length map (Head certificate.bound) (legs_forms (legs_of certificate) ++ (End ∷ []))))
read-short map text (Err e) reads few = tt
