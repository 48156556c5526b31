-- What a draft is of where one more line is taken.
use Rattle.std.proofs.Common.{◌≡◌, ℕ, true, false, List, [], ◌∷◌, ◌++◌, map, Some, None, refl, sym, ap, ◌∙◌, subst, append_assoc, append-nil}
use Rattle.std.proofs.lemmas.List.{map-append}
use Rattle.overpass_graph.specs.Maps.{MapValue, IsMap}
use Rattle.certificate_text.specs.declared.certificate.Entry.{Entry}
use Rattle.certificate_text.specs.declared.certificate.LowerBound.{LowerBound}
use Rattle.certificate_text.specs.declared.draft.Draft.{Draft}
use Rattle.certificate_text.specs.declared.draft.Place.{Place}
use Rattle.certificate_text.specs.declared.draft.Place.TheVariants as place_
use Rattle.certificate_text.specs.Drafts.{stage_at, forms_at, IsTaken, Takes, ReadsOn}
use Rattle.certificate_text.specs.Lines.{Form, Head, Leg, Cost, Label, End, Stands, IsForm, line_of, stage_after}
use Rattle.certificate_text.specs.Parts.{ReadsTo}
use Rattle.certificate_text.specs.Texts.{LegValue, leg_of, leg_forms, legs_forms, labels_of}
use Rattle.certificate_text.proofs.LineLemmas.{line-no, line-own}
use Rattle.certificate_text.proofs.ByteLemmas.{cut-same}

-- ---- The lines of legs

-- one more leg
pub legs-push : (legs : List LegValue) (leg : LegValue) → legs_forms (legs ++ leg ∷ []) ≡ legs_forms legs ++ leg_forms leg
legs-push [] leg = append-nil (leg_forms leg)
legs-push (l ∷ legs) leg =
    ap (λ fs. leg_forms l ++ fs) (legs-push legs leg) ∙ sym (append_assoc (leg_forms l) (legs_forms legs) (leg_forms leg))

-- one more label
pub label-push : (legs : List LegValue) (walk : List ℕ) (cost : ℕ) (entries : List Entry) (entry : Entry) →
    forms_at place_.Labelled legs (record { walk = walk; cost = cost; entries = entries ++ entry ∷ [] })
    ≡ forms_at place_.Labelled legs (record { walk = walk; cost = cost; entries = entries }) ++ (Label entry ∷ [])
label-push legs walk cost entries entry =
    ap (λ fs. legs_forms legs ++ (Leg walk ∷ Cost cost ∷ fs)) (map-append Label entries (entry ∷ []))
    ∙ sym (append_assoc (legs_forms legs) (Leg walk ∷ Cost cost ∷ labels_of entries) (Label entry ∷ []))

-- the cost of the leg
pub cost-push : (legs : List LegValue) (walk : List ℕ) (cost : ℕ) (old : LegValue) → old.walk ≡ walk →
    forms_at place_.Labelled legs (record { walk = walk; cost = cost; entries = [] })
    ≡ forms_at place_.Walked legs old ++ (Cost cost ∷ [])
cost-push legs walk cost old walk_is =
    ap (λ (w : List ℕ). legs_forms legs ++ (Leg w ∷ Cost cost ∷ [])) (sym walk_is)
    ∙ sym (append_assoc (legs_forms legs) (Leg old.walk ∷ []) (Cost cost ∷ []))

-- a line behind a leg that is done
pub closed-push : (legs : List LegValue) (leg : LegValue) (form : Form) →
    legs_forms (legs ++ leg ∷ []) ++ (form ∷ []) ≡ forms_at place_.Labelled legs leg ++ (form ∷ [])
closed-push legs leg form = ap (λ fs. fs ++ (form ∷ [])) (legs-push legs leg)

-- ---- Taken lines

-- a line is taken where the new draft is of the old one's lines and this one
pub takes : (old new : Draft) (form : Form) (p q : Place) (legs later : List LegValue) (leg next : LegValue) → old.place ≡ p →
    map leg_of old.legs.items ≡ legs → leg_of old.leg ≡ leg → new.place ≡ q → map leg_of new.legs.items ≡ later → leg_of new.leg ≡ next →
    Stands (stage_at p) form → stage_at q ≡ stage_after form → forms_at q later next ≡ forms_at p legs leg ++ (form ∷ []) →
    IsTaken old new form
takes old new form p q legs later leg next old_p old_legs old_leg new_q new_legs new_leg stands stage forms = record {
  stands = subst (λ s. Stands (stage_at s) form) (sym old_p) stands;
  place = ap stage_at new_q ∙ stage;
  forms = ap (λ s. forms_at s (map leg_of new.legs.items) (leg_of new.leg)) new_q
      ∙ ap (λ ls. forms_at q ls (leg_of new.leg)) new_legs ∙ ap (forms_at q later) new_leg ∙ forms
      ∙ sym (ap (λ s. forms_at s (map leg_of old.legs.items) (leg_of old.leg) ++ (form ∷ [])) old_p
      ∙ ap (λ ls. forms_at p ls (leg_of old.leg) ++ (form ∷ [])) old_legs
      ∙ ap (λ l. forms_at p legs l ++ (form ∷ [])) old_leg);
}

-- ---- Lines that can't stand

pub label-not : (p : Place) (entry : Entry) → (p ≡ place_.Labelled → ⊥) → Stands (stage_at p) (Label entry) → ⊥
label-not place_.Opened entry other stands = stands
label-not place_.Walked entry other stands = stands
label-not place_.Labelled entry other stands = other refl
label-not place_.Ended entry other stands = stands

pub cost-not : (p : Place) (cost : ℕ) → (p ≡ place_.Walked → ⊥) → Stands (stage_at p) (Cost cost) → ⊥
cost-not place_.Opened cost other stands = stands
cost-not place_.Walked cost other stands = other refl
cost-not place_.Labelled cost other stands = stands
cost-not place_.Ended cost other stands = stands

pub leg-not : (p : Place) (walk : List ℕ) → (p ≡ place_.Opened → ⊥) → (p ≡ place_.Labelled → ⊥) → Stands (stage_at p) (Leg walk) → ⊥
leg-not place_.Opened walk not_opened not_labelled stands = not_opened refl
leg-not place_.Walked walk not_opened not_labelled stands = stands
leg-not place_.Labelled walk not_opened not_labelled stands = not_labelled refl
leg-not place_.Ended walk not_opened not_labelled stands = stands

pub end-not : (p : Place) → (p ≡ place_.Opened → ⊥) → (p ≡ place_.Labelled → ⊥) → Stands (stage_at p) End → ⊥
end-not place_.Opened not_opened not_labelled stands = not_opened refl
end-not place_.Walked not_opened not_labelled stands = stands
end-not place_.Labelled not_opened not_labelled stands = not_labelled refl
end-not place_.Ended not_opened not_labelled stands = stands

pub head-not : (p : Place) (bound : LowerBound) → Stands (stage_at p) (Head bound) → ⊥
head-not place_.Opened bound stands = stands
head-not place_.Walked bound stands = stands
head-not place_.Labelled bound stands = stands
head-not place_.Ended bound stands = stands

-- ---- Texts of lines

-- a line that was read is taken
pub read-taken : (map : MapValue) (old new : Draft) (text rest : List ℕ) (form : Form) →
    ReadsTo 10 (line_of map) (IsForm map) text (Some (form, rest)) → Takes old new form true → ReadsOn map old new text (Some rest)
read-taken map old new text rest form says taken = record { form = form; fits = says.0; text_is = says.1; taken = taken }

-- or no line can stand there that begins the text
pub read-left : (map : MapValue) (old new : Draft) (text rest : List ℕ) (form : Form) → IsMap map →
    ReadsTo 10 (line_of map) (IsForm map) text (Some (form, rest)) → Takes old new form false → ReadsOn map old new text None
read-left map old new text rest form is says not_there other more stands fits same =
    let lines = cut-same 10 (line_of map other) (line_of map form) more rest (line-no map other is fits) (line-no map form is says.0)
    (sym same ∙ says.1) in
    not_there (subst (Stands (stage_at old.place)) (line-own map other form is fits says.0 lines.0) stands)

-- a text that begins with no line has none that can stand anywhere
pub read-none : (map : MapValue) (old new : Draft) (text : List ℕ) → ReadsTo 10 (line_of map) (IsForm map) text None →
    ReadsOn map old new text None
read-none map old new text none form rest stands fits same = none form rest fits same
