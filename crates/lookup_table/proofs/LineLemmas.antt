-- What a line is.
use Rattle.std.proofs.Common.{◌≡◌, ◌≢◌, ℕ, Bool, true, false, cond, List, [], ◌∷◌, drop, nat_eq, ◌==◌, Option, None, Some, refl, sym, ap, subst, ◌∙◌}
use Rattle.std.proofs.lemmas.Str.{IsUtf8-from_is_utf8, is_utf8-from_IsUtf8}
use Rattle.std.specs.Str.{IsUtf8, is_utf8}
use Rattle.std.specs.List.{starts_with}
use Rattle.std.specs.Str.{bytes_eq}
use lib.Chars.{codes}
use Rattle.lookup_table.specs.declared.part.Part.TheVariants.{Way, Node}
use Rattle.lookup_table.specs.Line.{LineForm, Skipped, LookupVersion, MinorVersion, Opens, TagLine, Malformed, is_version, version_form, context_form, dashes_form, tag_of, tag_line, words_form, text_form, line_form}
use Rattle.lookup_table.specs.Words.{words_of, trimmed}

-- a line of UTF-8 is what its text is
pub line_form-utf8 : (line : List ℕ) → IsUtf8 line → line_form line ≡ text_form (trimmed line)
line_form-utf8 line utf8 = ap (λ b. cond b (text_form (trimmed line)) Malformed) (is_utf8-from_IsUtf8 line utf8)

-- another line isn't of the table's forms
pub line_form-other : (line : List ℕ) → ¬ (IsUtf8 line) → line_form line ≡ Malformed
line_form-other line other = by_test (is_utf8 line) refl
  where
    by_test : (b : Bool) → is_utf8 line ≡ b → cond b (text_form (trimmed line)) Malformed ≡ Malformed
    by_test true utf8 = absurd (other (IsUtf8-from_is_utf8 line utf8))
    by_test false test = refl

-- ---- Lines that begin with dashes

-- a line that is no version opens a part or is skipped
pub dashes_form-context : (line : List ℕ) → starts_with nat_eq line (codes "---lookupversion:") ≡ false
    → starts_with nat_eq line (codes "---minorversion:") ≡ false → dashes_form line ≡ context_form line
dashes_form-context line lookup minor =
    ap (λ b. cond b (version_form LookupVersion (drop 17 line))
    (cond (starts_with nat_eq line (codes "---minorversion:")) (version_form MinorVersion (drop 16 line)) (context_form line))) lookup
    ∙ ap (λ b. cond b (version_form MinorVersion (drop 16 line)) (context_form line)) minor

-- ---- Tag lines

-- a tag line has a spelling
abbrev pub HasSpelling : LineForm → Type 0
HasSpelling (TagLine tag []) = ⊥
HasSpelling _ = Unit {0}

-- one of two forms has it where both have
either : (b : Bool) (x y : LineForm) → HasSpelling x → HasSpelling y → HasSpelling (cond b x y)
either true x y hx hy = hx
either false x y hx hy = hy

-- a line of words has it
words_form-HasSpelling : (words : List (List ℕ)) → HasSpelling (words_form words)
words_form-HasSpelling [] = tt
words_form-HasSpelling (w ∷ ws) = by_tag (tag_of w) ws
  where
    by_tag : (o : Option (List ℕ)) (ss : List (List ℕ)) → HasSpelling (tag_line o ss)
    by_tag None ss = tt
    by_tag (Some tag) [] = tt
    by_tag (Some tag) (s ∷ ss) = tt

-- a line that begins with dashes has it
dashes_form-HasSpelling : (line : List ℕ) → HasSpelling (dashes_form line)
dashes_form-HasSpelling line =
    either (starts_with nat_eq line (codes "---lookupversion:")) (version_form LookupVersion (drop 17 line)) _
    (either (is_version (drop 17 line)) LookupVersion Malformed tt tt)
    (either (starts_with nat_eq line (codes "---minorversion:")) (version_form MinorVersion (drop 16 line)) _
    (either (is_version (drop 16 line)) MinorVersion Malformed tt tt)
    (either (bytes_eq line (codes "---context:way")) (Opens Way) _ tt
    (either (bytes_eq line (codes "---context:node")) (Opens Node) Skipped tt tt)))

-- each text has it
text_form-HasSpelling : (line : List ℕ) → HasSpelling (text_form line)
text_form-HasSpelling [] = tt
text_form-HasSpelling (c ∷ cs) =
    either (c == 35) Skipped _ tt
    (either (starts_with nat_eq (c ∷ cs) (codes "---")) (dashes_form (c ∷ cs)) (words_form (words_of (c ∷ cs)))
    (dashes_form-HasSpelling (c ∷ cs)) (words_form-HasSpelling (words_of (c ∷ cs))))

-- each line has it
line_form-HasSpelling : (line : List ℕ) → HasSpelling (line_form line)
line_form-HasSpelling line = either (is_utf8 line) (text_form (trimmed line)) Malformed (text_form-HasSpelling (trimmed line)) tt

-- so the spellings of a line that was read aren't none
pub some_spelling : (line tag : List ℕ) (spellings : List (List ℕ)) → TagLine tag spellings ≡ line_form line → spellings ≢ []
some_spelling line tag spellings form none =
    subst HasSpelling (sym form ∙ ap (TagLine tag) none) (line_form-HasSpelling line)
