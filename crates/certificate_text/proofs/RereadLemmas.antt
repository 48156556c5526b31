-- The text of a certificate is read as the same certificate.
use Rattle.std.proofs.Common.{◌≡◌, ℕ, List, [], ◌∷◌, ◌++◌, map, Result, Ok, Err, refl, sym, ap, ◌∙◌, subst, append_assoc, append-nil}
use Rattle.std.specs.List.{AllByRecursion}
use Rattle.overpass_graph.specs.Maps.{MapValue, IsMap}
use Rattle.certificate_text.specs.declared.certificate.Certificate.{Certificate}
use Rattle.certificate_text.specs.declared.certificate.Entry.{Entry}
use Rattle.certificate_text.specs.declared.certificate.LowerBound.{LowerBound}
use Rattle.certificate_text.specs.declared.error.CertError.{CertError}
use Rattle.certificate_text.specs.declared.error.CertError.TheVariants.{Line, NoMemory}
use Rattle.certificate_text.specs.Lines.{Form, Head, Leg, Cost, Label, End, line_of, lines_of, IsEntry, Stage, Unbegun, Opened, Labelled, Ended, Stands, AreStanding, stage_from, IsFirstFault}
use Rattle.certificate_text.specs.Texts.{CertificateValue, LegValue, legs_forms, labels_of, forms_of, certificate_text, value_of, AreLegs, IsTextOf, ReadsText, IsSame}
use Rattle.certificate_text.proofs.LineLemmas.{line-some, lines-same, stage-push, standing-fits, standing-at}

-- ---- What was written is read again

-- a leg, and the last line, may stand here
record IsFree (stage : Stage) : Type 0 where
  pub leg : (walk : List ℕ) → Stands stage (Leg walk)
  pub end_in : Stands stage End

free-opened : IsFree Opened
free-opened = record { leg = λ walk. tt; end_in = tt }

free-labelled : IsFree Labelled
free-labelled = record { leg = λ walk. tt; end_in = tt }

-- labels stand before what stands behind them
labels-stand : (map : MapValue) (entries : List Entry) (more : List Form) → AllByRecursion (IsEntry map) entries →
    AreStanding map Labelled more → AreStanding map Labelled (labels_of entries ++ more)
labels-stand map [] more fits standing = standing
labels-stand map (e ∷ entries) more fits standing = (tt, (fits.0, labels-stand map entries more fits.1 standing))

-- the lines of legs and the last line stand
legs-stand : (map : MapValue) (stage : Stage) (legs : List LegValue) → IsFree stage → AreLegs map legs →
    AreStanding map stage (legs_forms legs ++ (End ∷ []))
legs-stand map stage [] free fits = (free.end_in, (tt, tt))
legs-stand map stage (leg ∷ legs) free fits =
    let later = legs-stand map Labelled legs free-labelled fits.1 in
    let labels = labels-stand map leg.entries (legs_forms legs ++ (End ∷ [])) fits.0.entries later in (
      free.leg leg.walk,
      (
        fits.0.walk,
        (
          tt,
          (
            fits.0.cost,
            subst (AreStanding map Labelled) (sym (append_assoc (labels_of leg.entries) (legs_forms legs) (End ∷ []))) labels,
          ),
        ),
      ),
    )

-- so do those of a certificate
forms-stand : (map : MapValue) (value : CertificateValue) → AreLegs map value.legs → AreStanding map Unbegun (forms_of value)
forms-stand map value fits = (tt, (tt, legs-stand map Opened value.legs free-opened fits))

-- the last line is the last
forms-end : (value : CertificateValue) → stage_from Unbegun (forms_of value) ≡ Ended
forms-end value = stage-push Opened (legs_forms value.legs) End

-- the text of a certificate has no first fault
pub reread-refused : (map : MapValue) (text : List ℕ) (value : CertificateValue) (line : ℕ) → IsMap map → AreLegs map value.legs →
    text ≡ certificate_text map value → IsFirstFault map text line → ⊥
unfolding certificate_text
reread-refused map text value line is fits same at =
    let stand = forms-stand map value fits in
    let on = lines-same map at.before (forms_of value) at.rest is (standing-fits map Unbegun at.before at.standing)
    (standing-fits map Unbegun (forms_of value) stand) (sym at.text_is ∙ same) in
    by_more on.more on.forms on.rest_is stand
  where
    by_more : (more : List Form) → forms_of value ≡ at.before ++ more → at.rest ≡ lines_of map more →
        AreStanding map Unbegun (forms_of value) → ⊥
    by_more [] forms rest stand =
        at.open_end rest (ap (stage_from Unbegun) (sym (append-nil at.before) ∙ sym forms) ∙ forms-end value)
    by_more (g ∷ gs) forms rest stand =
        let there = standing-at map Unbegun at.before g gs (subst (AreStanding map Unbegun) forms stand) in
        at.fault g (lines_of map gs) there.0 there.1 rest

-- what labels are followed by
abbrev NoLabel : List Form → Type 0
NoLabel [] = Unit {0}
NoLabel (Label entry ∷ fs) = ⊥
NoLabel (Head bound ∷ fs) = Unit {0}
NoLabel (Leg walk ∷ fs) = Unit {0}
NoLabel (Cost cost ∷ fs) = Unit {0}
NoLabel (End ∷ fs) = Unit {0}

-- the lines of legs begin with no label
legs-no_label : (legs : List LegValue) → NoLabel (legs_forms legs ++ (End ∷ []))
legs-no_label [] = tt
legs-no_label (leg ∷ legs) = tt

-- the parts of a list
head-same : {A : Type 0} (x y : A) (xs ys : List A) → x ∷ xs ≡ y ∷ ys → (x ≡ y) × (xs ≡ ys)
head-same x y xs ys same = (cc, cc)

-- labels of the same lines are the same, and so is what follows them
labels-own : (es ds : List Entry) (fs gs : List Form) → NoLabel fs → NoLabel gs → labels_of es ++ fs ≡ labels_of ds ++ gs →
    (es ≡ ds) × (fs ≡ gs)
labels-own [] [] fs gs no_f no_g same = (refl, same)
labels-own [] (d ∷ ds) fs gs no_f no_g same = absurd (subst NoLabel same no_f)
labels-own (e ∷ es) [] fs gs no_f no_g same = absurd (subst NoLabel (sym same) no_g)
labels-own (e ∷ es) (d ∷ ds) fs gs no_f no_g same =
    let both = head-same (Label e) (Label d) (labels_of es ++ fs) (labels_of ds ++ gs) same in
    let first : e ≡ d = let h = both.0 in cc in
    let rest = labels-own es ds fs gs no_f no_g both.1 in
    (ap (λ x. x ∷ es) first ∙ ap (λ xs. d ∷ xs) rest.0, rest.1)

-- legs of the same lines are the same
legs-own : (xs ys : List LegValue) → legs_forms xs ++ (End ∷ []) ≡ legs_forms ys ++ (End ∷ []) → xs ≡ ys
legs-own [] [] same = refl
legs-own [] (y ∷ ys) same = absurd cc
legs-own (x ∷ xs) [] same = absurd cc
legs-own (x ∷ xs) (y ∷ ys) same =
    let first = head-same (Leg x.walk) (Leg y.walk) _ _ same in
    let second = head-same (Cost x.cost) (Cost y.cost) _ _ first.1 in
    let walk : x.walk ≡ y.walk = let h = first.0 in cc in
    let cost : x.cost ≡ y.cost = let h = second.0 in cc in
    let later : labels_of x.entries ++ (legs_forms xs ++ (End ∷ [])) ≡ labels_of y.entries ++ (legs_forms ys ++ (End ∷ [])) =
    sym (append_assoc (labels_of x.entries) (legs_forms xs) (End ∷ [])) ∙ second.1
    ∙ append_assoc (labels_of y.entries) (legs_forms ys) (End ∷ []) in
    let both = labels-own x.entries y.entries (legs_forms xs ++ (End ∷ [])) (legs_forms ys ++ (End ∷ [])) (legs-no_label xs)
    (legs-no_label ys) later in
    let leg : x ≡ y = legs-same x y walk cost both.0 in
    ap (λ l. l ∷ xs) leg ∙ ap (λ ls. y ∷ ls) (legs-own xs ys both.1)
  where
    legs-same : (x y : LegValue) → x.walk ≡ y.walk → x.cost ≡ y.cost → x.entries ≡ y.entries → x ≡ y
    legs-same x y walk cost entries =
        ap (λ (w : List ℕ). record { walk = w; cost = x.cost; entries = x.entries }) walk
        ∙ ap (λ (c : ℕ). record { walk = y.walk; cost = c; entries = x.entries }) cost
        ∙ ap (λ (es : List Entry). record { walk = y.walk; cost = y.cost; entries = es }) entries

-- certificates of the same lines say the same
values-own : (x y : CertificateValue) → forms_of x ≡ forms_of y → x ≡ y
values-own x y same =
    let both = head-same (Head x.bound) (Head y.bound) _ _ same in
    let bound : x.bound ≡ y.bound = let h = both.0 in cc in
    ap (λ (b : LowerBound). record { bound = b; legs = x.legs }) bound
    ∙ ap (λ (ls : List LegValue). record { bound = y.bound; legs = ls }) (legs-own x.legs y.legs both.1)

-- certificates of one text are one
pub text-own : (map : MapValue) (text : List ℕ) (own value : CertificateValue) → IsMap map → IsTextOf map text own →
    AreLegs map value.legs → text ≡ certificate_text map value → own ≡ value
unfolding certificate_text
text-own map text own value is of fits same =
    let stand = forms-stand map value fits in
    let stand_own = forms-stand map own of.legs_are in
    let on = lines-same map (forms_of own) (forms_of value) [] is (standing-fits map Unbegun (forms_of own) stand_own)
    (standing-fits map Unbegun (forms_of value) stand) (append-nil (lines_of map (forms_of own)) ∙ sym of.text_is ∙ same) in
    by_more on.more on.forms on.rest_is
  where
    by_more : (more : List Form) → forms_of value ≡ forms_of own ++ more → [] ≡ lines_of map more → own ≡ value
    by_more [] forms rest = values-own own value (sym (forms ∙ append-nil (forms_of own)))
    by_more (g ∷ gs) forms rest = absurd (line-some (line_of map g) (lines_of map gs) (sym rest))

-- what is read of the text of a certificate is the same one
pub reread : (map : MapValue) (text : List ℕ) (value : CertificateValue) (r : Result Certificate CertError) → IsMap map →
    AreLegs map value.legs → text ≡ certificate_text map value → ReadsText map text r → IsSame value r
reread map text value (Ok certificate) is fits same reads = text-own map text (value_of certificate) value is reads fits same
reread map text value (Err NoMemory) is fits same reads = refl
reread map text value (Err (Line line)) is fits same reads = absurd (reread-refused map text value line is fits same reads)
