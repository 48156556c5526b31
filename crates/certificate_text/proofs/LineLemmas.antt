-- What lines are of.
use Rattle.std.proofs.Common.{◌≡◌, ℕ, Bool, true, false, not, ◌&&◌, ◌==◌, List, [], ◌∷◌, ◌++◌, get_or, None, refl, sym, ap, ◌∙◌, subst, arith, eq-eqb, append_assoc}
use Rattle.std.specs.Prelude.{codes, decimal}
use Rattle.std.specs.List.{AllByRecursion}
use Rattle.std.proofs.lemmas.List.{append_cancel_left}
use Rattle.overpass_graph.specs.Maps.{MapValue, IsMap}
use Rattle.certificate_text.specs.declared.certificate.LowerBound.{LowerBound}
use Rattle.certificate_text.specs.declared.certificate.LowerBound.TheVariants.{Zero, Least}
use Rattle.certificate_text.specs.Lines.{Form, Head, Leg, Cost, Label, End, head_text, line_of, lines_of, walk_text, entry_text, IsForm, AreLinks, Stage, Stands, AreStanding, stage_after, stage_from}
use Rattle.certificate_text.specs.Parts.{HasNo, Reads, ReadsTo}
use Rattle.certificate_text.proofs.ByteLemmas.{some-none, no-append, no-within, cut-same}
use Rattle.certificate_text.proofs.NumberLemmas.{decimal-no, decimal-own}
use Rattle.certificate_text.proofs.PartLemmas.{entry-own, entry-no}
use Rattle.certificate_text.proofs.WalkLemmas.{walk-own, walk-no}

-- ---- The forms of lines

-- what a line tells that begins as a leg
pub leg-told : (map : MapValue) (text rest : List ℕ) (form : Form) → IsForm map form → codes "leg" ++ text ≡ line_of map form ++ (10 ∷ rest) →
    (walk : List ℕ) × (AreLinks map walk × (text ≡ walk_text map walk ++ (10 ∷ rest)))
leg-told map text rest (Head b) fits same = let h : 108 ≡ 99 = ap (λ (t : List ℕ). get_or t 0 0) same in absurd (omega (arith, h))
leg-told map text rest (Leg w) fits same = (w, (fits, append_cancel_left (codes "leg") text (walk_text map w ++ (10 ∷ rest)) same))
leg-told map text rest (Cost n) fits same = let h : 108 ≡ 99 = ap (λ (t : List ℕ). get_or t 0 0) same in absurd (omega (arith, h))
leg-told map text rest (Label e) fits same = let h : 101 ≡ 97 = ap (λ (t : List ℕ). get_or t 1 0) same in absurd (omega (arith, h))
leg-told map text rest End fits same = let h : 108 ≡ 101 = ap (λ (t : List ℕ). get_or t 0 0) same in absurd (omega (arith, h))

-- a text that begins as a leg and has no line end begins with no line
pub leg-uncut : (map : MapValue) (text : List ℕ) → HasNo 10 text → ReadsTo 10 (line_of map) (IsForm map) (codes "leg" ++ text) None
leg-uncut map text free form rest fits same =
    let told = leg-told map text rest form fits same in
    no-within 10 (walk_text map told.0) rest (subst (HasNo 10) told.1.1 free)

-- nor does one whose first line says no walk
pub leg-none : (map : MapValue) (text line after : List ℕ) → IsMap map → HasNo 10 line × (text ≡ line ++ (10 ∷ after)) →
    Reads (walk_text map) (AreLinks map) line None → ReadsTo 10 (line_of map) (IsForm map) (codes "leg" ++ text) None
leg-none map text line after is cut none form rest fits same =
    let told = leg-told map text rest form fits same in
    none told.0 told.1.0
    (cut-same 10 line (walk_text map told.0) after rest cut.0 (walk-no map told.0 is told.1.0) (sym cut.1 ∙ told.1.1)).0

-- a text that begins as no line
pub no-line : (map : MapValue) (text : List ℕ) → ((rest : List ℕ) → text ≡ codes "label " ++ rest → ⊥) →
    ((rest : List ℕ) → text ≡ codes "cost " ++ rest → ⊥) → ((rest : List ℕ) → text ≡ codes "leg" ++ rest → ⊥) →
    ((rest : List ℕ) → text ≡ codes "end\n" ++ rest → ⊥) → ReadsTo 10 head_text (λ _. Unit {0}) text None →
    ReadsTo 10 (line_of map) (IsForm map) text None
no-line map text no_label no_cost no_leg no_end no_head (Head bound) rest fits same = no_head bound rest tt same
no-line map text no_label no_cost no_leg no_end no_head (Leg walk) rest fits same = no_leg (walk_text map walk ++ (10 ∷ rest)) same
no-line map text no_label no_cost no_leg no_end no_head (Cost cost) rest fits same = no_cost (decimal cost ++ (10 ∷ rest)) same
no-line map text no_label no_cost no_leg no_end no_head (Label entry) rest fits same = no_label (entry_text map entry ++ (10 ∷ rest)) same
no-line map text no_label no_cost no_leg no_end no_head End rest fits same = no_end rest same

-- a text that begins with neither first line begins with none
pub head-none : (text : List ℕ) → ((rest : List ℕ) → text ≡ codes "certificate 1\n" ++ rest → ⊥) →
    ((rest : List ℕ) → text ≡ codes "certificate 2\n" ++ rest → ⊥) → ReadsTo 10 head_text (λ _. Unit {0}) text None
head-none text no_zero no_least Zero rest fits same = no_zero rest same
head-none text no_zero no_least Least rest fits same = no_least rest same

-- a first line says one lower bound
head-own : (a b : LowerBound) → head_text a ≡ head_text b → a ≡ b
head-own Zero Zero same = refl
head-own Zero Least same = let h : 49 ≡ 50 = ap (λ (t : List ℕ). get_or t 12 0) same in absurd (omega (arith, h))
head-own Least Zero same = let h : 50 ≡ 49 = ap (λ (t : List ℕ). get_or t 12 0) same in absurd (omega (arith, h))
head-own Least Least same = refl

-- lines of one text are of one form
pub line-own : (map : MapValue) (f g : Form) → IsMap map → IsForm map f → IsForm map g → line_of map f ≡ line_of map g → f ≡ g
line-own map (Head b) (Head d) is fits_f fits_g same = ap Head (head-own b d same)
line-own map (Head b) (Leg v) is fits_f fits_g same = let h : 99 ≡ 108 = ap (λ (t : List ℕ). get_or t 0 0) same in absurd (omega (arith, h))
line-own map (Head b) (Cost m) is fits_f fits_g same = let h : 101 ≡ 111 = ap (λ (t : List ℕ). get_or t 1 0) same in absurd (omega (arith, h))
line-own map (Head b) (Label d) is fits_f fits_g same = let h : 99 ≡ 108 = ap (λ (t : List ℕ). get_or t 0 0) same in absurd (omega (arith, h))
line-own map (Head b) End is fits_f fits_g same = let h : 99 ≡ 101 = ap (λ (t : List ℕ). get_or t 0 0) same in absurd (omega (arith, h))
line-own map (Leg w) (Head b) is fits_f fits_g same = let h : 108 ≡ 99 = ap (λ (t : List ℕ). get_or t 0 0) same in absurd (omega (arith, h))
line-own map (Leg w) (Leg v) is fits_f fits_g same = ap Leg (walk-own map w v is fits_f fits_g (append_cancel_left (codes "leg") (walk_text map w) (walk_text map v) same))
line-own map (Leg w) (Cost m) is fits_f fits_g same = let h : 108 ≡ 99 = ap (λ (t : List ℕ). get_or t 0 0) same in absurd (omega (arith, h))
line-own map (Leg w) (Label d) is fits_f fits_g same = let h : 101 ≡ 97 = ap (λ (t : List ℕ). get_or t 1 0) same in absurd (omega (arith, h))
line-own map (Leg w) End is fits_f fits_g same = let h : 108 ≡ 101 = ap (λ (t : List ℕ). get_or t 0 0) same in absurd (omega (arith, h))
line-own map (Cost n) (Head b) is fits_f fits_g same = let h : 111 ≡ 101 = ap (λ (t : List ℕ). get_or t 1 0) same in absurd (omega (arith, h))
line-own map (Cost n) (Leg v) is fits_f fits_g same = let h : 99 ≡ 108 = ap (λ (t : List ℕ). get_or t 0 0) same in absurd (omega (arith, h))
line-own map (Cost n) (Cost m) is fits_f fits_g same = ap Cost (decimal-own n m (omega (arith, fits_f)) (omega (arith, fits_g)) (append_cancel_left (codes "cost ") (decimal n) (decimal m) same))
line-own map (Cost n) (Label d) is fits_f fits_g same = let h : 99 ≡ 108 = ap (λ (t : List ℕ). get_or t 0 0) same in absurd (omega (arith, h))
line-own map (Cost n) End is fits_f fits_g same = let h : 99 ≡ 101 = ap (λ (t : List ℕ). get_or t 0 0) same in absurd (omega (arith, h))
line-own map (Label e) (Head b) is fits_f fits_g same = let h : 108 ≡ 99 = ap (λ (t : List ℕ). get_or t 0 0) same in absurd (omega (arith, h))
line-own map (Label e) (Leg v) is fits_f fits_g same = let h : 97 ≡ 101 = ap (λ (t : List ℕ). get_or t 1 0) same in absurd (omega (arith, h))
line-own map (Label e) (Cost m) is fits_f fits_g same = let h : 108 ≡ 99 = ap (λ (t : List ℕ). get_or t 0 0) same in absurd (omega (arith, h))
line-own map (Label e) (Label d) is fits_f fits_g same = ap Label (entry-own map e d is fits_f fits_g (append_cancel_left (codes "label ") (entry_text map e) (entry_text map d) same))
line-own map (Label e) End is fits_f fits_g same = let h : 108 ≡ 101 = ap (λ (t : List ℕ). get_or t 0 0) same in absurd (omega (arith, h))
line-own map End (Head b) is fits_f fits_g same = let h : 101 ≡ 99 = ap (λ (t : List ℕ). get_or t 0 0) same in absurd (omega (arith, h))
line-own map End (Leg v) is fits_f fits_g same = let h : 101 ≡ 108 = ap (λ (t : List ℕ). get_or t 0 0) same in absurd (omega (arith, h))
line-own map End (Cost m) is fits_f fits_g same = let h : 101 ≡ 99 = ap (λ (t : List ℕ). get_or t 0 0) same in absurd (omega (arith, h))
line-own map End (Label d) is fits_f fits_g same = let h : 101 ≡ 108 = ap (λ (t : List ℕ). get_or t 0 0) same in absurd (omega (arith, h))
line-own map End End is fits_f fits_g same = refl

-- ---- Line ends

-- each byte of a text is another one
differs : ℕ → List ℕ → Bool
differs c [] = true
differs c (x ∷ xs) = not (x == c) && differs c xs

-- so the text doesn't have it
no-tested : (c : ℕ) (text : List ℕ) → differs c text ≡ true → HasNo c text
unfolding differs
no-tested c [] test = tt
no-tested c (x ∷ xs) test = by_test (x == c) refl test (no-tested c xs)
  where
    by_test : (b : Bool) → (x == c) ≡ b → (not b && differs c xs) ≡ true → (differs c xs ≡ true → HasNo c xs) → HasNo c (x ∷ xs)
    by_test true is test rest = absurd cc
    by_test false is test rest = ((λ same. let h : (x == c) ≡ true = eq-eqb x c same in absurd cc), rest test)

-- a line has no line end
pub line-no : (map : MapValue) (form : Form) → IsMap map → IsForm map form → HasNo 10 (line_of map form)
unfolding differs
line-no map (Head Zero) is fits = no-tested 10 (head_text Zero) refl
line-no map (Head Least) is fits = no-tested 10 (head_text Least) refl
line-no map (Leg walk) is fits =
    no-append 10 (codes "leg") (walk_text map walk) (no-tested 10 (codes "leg") refl) (walk-no map walk is fits)
line-no map (Cost cost) is fits =
    no-append 10 (codes "cost ") (decimal cost) (no-tested 10 (codes "cost ") refl)
    (decimal-no 10 cost (omega arith) (omega (arith, fits)))
line-no map (Label entry) is fits =
    no-append 10 (codes "label ") (entry_text map entry) (no-tested 10 (codes "label ") refl) (entry-no map entry is fits)
line-no map End is fits = no-tested 10 (codes "end") refl

-- ---- Lines in a row

-- lines one after the other
pub lines-append : (map : MapValue) (fs gs : List Form) → lines_of map (fs ++ gs) ≡ lines_of map fs ++ lines_of map gs
lines-append map [] gs = refl
lines-append map (f ∷ fs) gs =
    ap (λ t. line_of map f ++ (10 ∷ t)) (lines-append map fs gs)
    ∙ sym (append_assoc (line_of map f) (10 ∷ lines_of map fs) (lines_of map gs))

-- the first of lines that end somewhere
lines-first : (map : MapValue) (f : Form) (fs : List Form) (rest : List ℕ) →
    lines_of map (f ∷ fs) ++ rest ≡ line_of map f ++ (10 ∷ (lines_of map fs ++ rest))
lines-first map f fs rest = append_assoc (line_of map f) (10 ∷ lines_of map fs) rest

-- a line isn't nothing
pub line-some : (line rest : List ℕ) → line ++ (10 ∷ rest) ≡ [] → ⊥
line-some [] rest same = some-none 10 rest same
line-some (c ∷ line) rest same = some-none c (line ++ (10 ∷ rest)) same

-- more lines, with what they are of
pub record GoesOn (map : MapValue) (fs gs : List Form) (rest : List ℕ) : Type 0 where
  pub more : List Form
  pub forms : gs ≡ fs ++ more
  pub rest_is : rest ≡ lines_of map more

-- lines that begin a text of lines are its first ones
pub lines-same : (map : MapValue) (fs gs : List Form) (rest : List ℕ) → IsMap map → AllByRecursion (IsForm map) fs →
    AllByRecursion (IsForm map) gs → lines_of map fs ++ rest ≡ lines_of map gs → GoesOn map fs gs rest
lines-same map [] gs rest is fits_f fits_g same = record { more = gs; forms = refl; rest_is = same }
lines-same map (f ∷ fs) [] rest is fits_f fits_g same =
    absurd (line-some (line_of map f) (lines_of map fs ++ rest) (sym (lines-first map f fs rest) ∙ same))
lines-same map (f ∷ fs) (g ∷ gs) rest is fits_f fits_g same =
    let both = cut-same 10 (line_of map f) (line_of map g) (lines_of map fs ++ rest) (lines_of map gs) (line-no map f is fits_f.0)
    (line-no map g is fits_g.0) (sym (lines-first map f fs rest) ∙ same) in
    let first : f ≡ g = line-own map f g is fits_f.0 fits_g.0 both.0 in
    let later = lines-same map fs gs rest is fits_f.1 fits_g.1 both.1 in
    record {
      more = later.more;
      forms = ap (λ (h : Form). h ∷ gs) (sym first) ∙ ap (λ hs. f ∷ hs) later.forms;
      rest_is = later.rest_is;
    }

-- ---- Lines that stand

-- one more line stands behind others
pub standing-push : (map : MapValue) (stage : Stage) (fs : List Form) (f : Form) → AreStanding map stage fs → Stands (stage_from stage fs) f →
    IsForm map f → AreStanding map stage (fs ++ f ∷ [])
standing-push map stage [] f standing stands fits = (stands, (fits, tt))
standing-push map stage (g ∷ fs) f standing stands fits =
    (standing.0, (standing.1.0, standing-push map (stage_after g) fs f standing.1.1 stands fits))

-- it says what may follow
pub stage-push : (stage : Stage) (fs : List Form) (f : Form) → stage_from stage (fs ++ f ∷ []) ≡ stage_after f
stage-push stage [] f = refl
stage-push stage (g ∷ fs) f = stage-push (stage_after g) fs f

-- lines that stand may be written
pub standing-fits : (map : MapValue) (stage : Stage) (fs : List Form) → AreStanding map stage fs → AllByRecursion (IsForm map) fs
standing-fits map stage [] standing = tt
standing-fits map stage (f ∷ fs) standing = (standing.1.0, standing-fits map (stage_after f) fs standing.1.1)

-- a line among others that stand
pub standing-at : (map : MapValue) (stage : Stage) (fs : List Form) (g : Form) (gs : List Form) → AreStanding map stage (fs ++ g ∷ gs) →
    Stands (stage_from stage fs) g × IsForm map g
standing-at map stage [] g gs standing = (standing.0, standing.1.0)
standing-at map stage (f ∷ fs) g gs standing = standing-at map (stage_after f) fs g gs standing.1.1
