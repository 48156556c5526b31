-- Texts that are written part after part.
use Rattle.std.proofs.Common.{◌≡◌, ℕ, zero, suc, ◌+◌, ◌<◌, ◌≤◌, List, [], ◌∷◌, ◌++◌, length, map, take, get_or, sym, ap, ◌∙◌, subst, arith, append_assoc}
use Rattle.std.specs.Prelude.{codes}
use Rattle.std.specs.List.{AllByRecursion}
use Rattle.std.proofs.lemmas.List.{map-append, take_more, take_all, flat_map_more}
use Rattle.overpass_graph.specs.Maps.{MapValue}
use Rattle.certificate_text.specs.declared.certificate.Certificate.{Certificate}
use Rattle.certificate_text.specs.declared.certificate.Entry.{Entry}
use Rattle.certificate_text.specs.declared.certificate.Proof.{Proof}
use Rattle.certificate_text.specs.Lines.{Label, End, head_text, lines_of, link_text, walk_text}
use Rattle.certificate_text.specs.Texts.{leg_of, leg_forms, legs_forms, labels_of, certificate_text, value_of, IsLeg}
use Rattle.certificate_text.proofs.DraftLemmas.{legs-push}
use Rattle.certificate_text.proofs.LineLemmas.{lines-append}

-- what is so of all items is so of the one at a place
pub all-at : {A : Type 0} (P : A → Type 0) (xs : List A) (k : ℕ) (d : A) → AllByRecursion P xs → k < length xs → P (get_or xs k d)
all-at P [] k d all below = absurd (omega arith)
all-at P (x ∷ xs) zero d all below = all.0
all-at P (x ∷ xs) (suc k) d all below = all-at P xs k d all.1 (omega arith)

-- a leg that may be written, by its place
pub leg-at : (map_value : MapValue) (legs : List Proof) (k : ℕ) (proof : Proof) → AllByRecursion (IsLeg map_value) (map leg_of legs) →
    k < length legs → proof ≡ get_or legs k proof → IsLeg map_value (leg_of proof)
leg-at map_value [] k proof all below is = absurd (omega arith)
leg-at map_value (x ∷ xs) zero proof all below is = subst (λ p. IsLeg map_value (leg_of p)) (sym is) all.0
leg-at map_value (x ∷ xs) (suc k) proof all below is = leg-at map_value xs k proof all.1 (omega arith) is

-- the items before a place and the one at it
pub taken-next : {A : Type 0} (xs : List A) (place : ℕ) (x d : A) → place < length xs → x ≡ get_or xs place d →
    take (place + 1) xs ≡ take place xs ++ x ∷ []
taken-next xs place x d below is = take_more xs place d below ∙ ap (λ y. take place xs ++ y ∷ []) (sym is)

-- two parts behind a text
pub two-parts : (first one two mid new : List ℕ) → mid ≡ first ++ one → new ≡ mid ++ two → new ≡ first ++ (one ++ two)
two-parts first one two mid new mid_is new_is = new_is ∙ ap (λ t. t ++ two) mid_is ∙ append_assoc first one two

-- one more link of a walk
pub links-more : (map : MapValue) (walk : List ℕ) (place link d : ℕ) (first mid new : List ℕ) → place < length walk →
    link ≡ get_or walk place d → mid ≡ first ++ walk_text map (take place walk) → new ≡ mid ++ (32 ∷ link_text map link) →
    new ≡ first ++ walk_text map (take (place + 1) walk)
links-more map walk place link d first mid new below is so_far added =
    added ∙ ap (λ text. text ++ (32 ∷ link_text map link)) so_far
    ∙ flat_map_more (λ (l : ℕ). 32 ∷ link_text map l) first (take place walk) link
    ∙ ap (λ ys. first ++ walk_text map ys) (sym (taken-next walk place link d below is))

-- one more label
pub labels-more : (map_value : MapValue) (entries : List Entry) (place : ℕ) (entry d : Entry) (first mid new : List ℕ) →
    place < length entries → entry ≡ get_or entries place d → mid ≡ first ++ lines_of map_value (labels_of (take place entries)) →
    new ≡ mid ++ lines_of map_value (Label entry ∷ []) → new ≡ first ++ lines_of map_value (labels_of (take (place + 1) entries))
labels-more map_value entries place entry d first mid new below is so_far added =
    let forms : labels_of (take (place + 1) entries) ≡ labels_of (take place entries) ++ (Label entry ∷ []) =
    ap labels_of (taken-next entries place entry d below is) ∙ map-append Label (take place entries) (entry ∷ []) in
    two-parts first (lines_of map_value (labels_of (take place entries))) (lines_of map_value (Label entry ∷ [])) mid new so_far added
    ∙ ap (λ t. first ++ t) (sym (lines-append map_value (labels_of (take place entries)) (Label entry ∷ []))
    ∙ ap (lines_of map_value) (sym forms))

-- one more leg
pub legs-more : (map_value : MapValue) (legs : List Proof) (place : ℕ) (proof d : Proof) (first mid new : List ℕ) →
    place < length legs → proof ≡ get_or legs place d → mid ≡ first ++ lines_of map_value (legs_forms (map leg_of (take place legs))) →
    new ≡ mid ++ lines_of map_value (leg_forms (leg_of proof)) →
    new ≡ first ++ lines_of map_value (legs_forms (map leg_of (take (place + 1) legs)))
legs-more map_value legs place proof d first mid new below is so_far added =
    let before = map leg_of (take place legs) in
    let forms : legs_forms (map leg_of (take (place + 1) legs)) ≡ legs_forms before ++ leg_forms (leg_of proof) =
    ap (λ ps. legs_forms (map leg_of ps)) (taken-next legs place proof d below is)
    ∙ ap legs_forms (map-append leg_of (take place legs) (proof ∷ [])) ∙ legs-push before (leg_of proof) in
    two-parts first (lines_of map_value (legs_forms before)) (lines_of map_value (leg_forms (leg_of proof))) mid new so_far added
    ∙ ap (λ t. first ++ t) (sym (lines-append map_value (legs_forms before) (leg_forms (leg_of proof)))
    ∙ ap (lines_of map_value) (sym forms))

-- the first line, all legs and the last line
pub all-written : (map_value : MapValue) (certificate : Certificate) (place : ℕ) (mid new : List ℕ) →
    length certificate.legs.items ≤ place →
    mid ≡ (head_text certificate.bound ++ (10 ∷ [])) ++ lines_of map_value (legs_forms (map leg_of (take place certificate.legs.items))) →
    new ≡ mid ++ codes "end\n" → new ≡ certificate_text map_value (value_of certificate)
unfolding certificate_text
all-written map_value certificate place mid new past so_far added =
    let legs = certificate.legs.items in
    let first : List ℕ = head_text certificate.bound ++ (10 ∷ []) in
    let all : take place legs ≡ legs = take_all place legs past in
    let before = legs_forms (map leg_of legs) in
    two-parts first (lines_of map_value before) (codes "end\n") mid new
    (so_far ∙ ap (λ ps. first ++ lines_of map_value (legs_forms (map leg_of ps))) all) added
    ∙ ap (λ t. first ++ t) (sym (lines-append map_value before (End ∷ [])))
