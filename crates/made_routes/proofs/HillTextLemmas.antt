-- The text of hills' profile is one: its words, and the sections of its words.
use Rattle.std.proofs.Common.{◌≡◌, ℕ, suc, Bool, true, false, ◌&&◌, List, [], ◌∷◌, ◌++◌, length, map, pos, Option, Some, None, Result, Ok, Err, refl, ap, ◌∙◌}
use Rattle.std.specs.Prelude.{codes, is_ok}
use Rattle.fixed_num.specs.Decimal.{cut_millionths}
use Rattle.fixed_num.specs.Literal.{literal_of}
use Rattle.profile_text.specs.Kind.{kind_of, op_of, plain_kind, section_of, word_of}
use Rattle.profile_text.specs.Read.{and_then, assignment_of, expr_of, most_depth, profile_of, read, sections_within, taken, with_first}
use Rattle.profile_text.specs.Token.{Place, Token, is_word_byte, prepend, tokens_from}
use Rattle.profile_text.specs.Tree.{Assignment, Constant, Sections}
use Rattle.profile_text.specs.declared.error.TextError.{TextError}
use Rattle.profile_text.specs.declared.kind.Section.{Section}
use Rattle.profile_text.specs.declared.kind.Section.TheVariants.{Global, Way}
use Rattle.made_routes.specs.Texts.{hill_text}
use Rattle.std.proofs.lemmas.Bool.{and_parts}
use Rattle.profile_text.proofs.CallerLemmas.{joined_byte, one_byte, token_is, word_is_ink}

-- ---- The tokens of words

-- bytes of words alone
abbrev are_word_bytes : List ℕ → Bool
are_word_bytes [] = true
are_word_bytes (c ∷ cs) = is_word_byte c && are_word_bytes cs

-- a word
abbrev is_word : List ℕ → Bool
is_word [] = false
is_word (c ∷ cs) = are_word_bytes (c ∷ cs)

-- words alone
abbrev are_words : List (List ℕ) → Bool
are_words [] = true
are_words (w ∷ ws) = is_word w && are_words ws

-- the text of words with a space between two
abbrev spaced : List (List ℕ) → List ℕ
spaced [] = []
spaced (w ∷ []) = w
spaced (w ∷ v ∷ ws) = w ++ 32 ∷ spaced (v ∷ ws)

-- a word before a space is a token
word_first : (line : ℕ) (w rest : List ℕ) → is_word w ≡ true →
    tokens_from false line (w ++ 32 ∷ rest) ≡ token_is line w ∷ tokens_from false line rest
word_first line [] rest h = absurd cc
word_first line (c ∷ []) rest h =
    let c_is = (and_parts (is_word_byte c) true h).0 in
    one_byte line c (32 ∷ rest) (word_is_ink c c_is) (ap (λ v. v && false) c_is)
word_first line (c ∷ d ∷ ds) rest h =
    let first = and_parts (is_word_byte c) (are_word_bytes (d ∷ ds)) h in
    let d_is = (and_parts (is_word_byte d) (are_word_bytes ds) first.1).0 in
    joined_byte line c (d ∷ ds ++ 32 ∷ rest) (word_is_ink c first.0) (ap (λ v. v && is_word_byte d) first.0 ∙ d_is)
    ∙ ap (prepend c) (word_first line (d ∷ ds) rest first.1)

-- a word at the end is a token
word_last : (line : ℕ) (w : List ℕ) → is_word w ≡ true → tokens_from false line w ≡ token_is line w ∷ []
word_last line [] h = absurd cc
word_last line (c ∷ []) h = one_byte line c [] (word_is_ink c (and_parts (is_word_byte c) true h).0) refl
word_last line (c ∷ d ∷ ds) h =
    let first = and_parts (is_word_byte c) (are_word_bytes (d ∷ ds)) h in
    let d_is = (and_parts (is_word_byte d) (are_word_bytes ds) first.1).0 in
    joined_byte line c (d ∷ ds) (word_is_ink c first.0) (ap (λ v. v && is_word_byte d) first.0 ∙ d_is)
    ∙ ap (prepend c) (word_last line (d ∷ ds) first.1)

-- the tokens of words with a space between two are the words
words_are_tokens : (line : ℕ) (ws : List (List ℕ)) → are_words ws ≡ true → tokens_from false line (spaced ws) ≡ map (token_is line) ws
words_are_tokens line [] h = refl
words_are_tokens line (w ∷ []) h = word_last line w (and_parts (is_word w) true h).0
words_are_tokens line (w ∷ v ∷ ws) h =
    word_first line w (spaced (v ∷ ws)) (and_parts (is_word w) (are_words (v ∷ ws)) h).0
    ∙ ap (λ ts. token_is line w ∷ ts) (words_are_tokens line (v ∷ ws) (and_parts (is_word w) (are_words (v ∷ ws)) h).1)

-- ---- The sections of tokens

-- a place between tokens of the first line
abbrev place : List Token → Place
place ts = record { last = 1; tokens = ts }

-- an assignment on the first line
abbrev assignment : List ℕ → ℕ → Assignment
assignment name millionths = record { name = name; line = 1; value = Constant (pos millionths) }

-- the sections from a place on
abbrev sections : ℕ → Option Section → List Token → Result Sections TextError
sections parts current ts = sections_within parts current 1 ts

-- the global section opens
opening-global : (parts : ℕ) (ts : List Token) →
    sections (suc parts) None (token_is 1 (codes "---context:global") ∷ ts) ≡ sections parts (Some Global) ts
unfolding sections_within kind_of word_of op_of section_of plain_kind literal_of cut_millionths
opening-global parts ts = refl

-- the section of ways opens
opening-way : (parts : ℕ) (ts : List Token) →
    sections (suc parts) (Some Global) (token_is 1 (codes "---context:way") ∷ ts) ≡ sections parts (Some Way) ts
unfolding sections_within kind_of word_of op_of section_of plain_kind literal_of cut_millionths
opening-way parts ts = refl

-- an assignment more in front takes nothing away
more_is_ok : (section : Section) (a : Assignment) (rest : Result Sections TextError) → is_ok (with_first section a rest) ≡ is_ok rest
more_is_ok section a (Ok s) = refl
more_is_ok section a (Err e) = refl

-- what is done with an assignment that was read
abbrev with_rest : ℕ → Section → Assignment → Place → Result Sections TextError
with_rest parts section a p = with_first section a (sections_within parts (Some section) p.last p.tokens)

-- the word of an assignment
assign-word : (parts : ℕ) (section : Section) (ts : List Token) →
    sections (suc parts) (Some section) (token_is 1 (codes "assign") ∷ ts) ≡ and_then (assignment_of (place ts)) (with_rest parts section)
unfolding sections_within kind_of word_of op_of section_of plain_kind literal_of cut_millionths
assign-word parts section ts = refl

-- an assignment that is read
assigning : (parts : ℕ) (section : Section) (ts rest : List Token) (a : Assignment) → assignment_of (place ts) ≡ read a (place rest) →
    is_ok (sections (suc parts) (Some section) (token_is 1 (codes "assign") ∷ ts)) ≡ is_ok (sections parts (Some section) rest)
assigning parts section ts rest a is =
    ap is_ok (assign-word parts section ts)
    ∙ ap (λ r. is_ok (and_then r (with_rest parts section))) is
    ∙ more_is_ok section a (sections parts (Some section) rest)

-- ---- The text

-- the words of the text
abbrev hill_words : List (List ℕ)
hill_words =
    codes "---context:global" ∷ codes "assign" ∷ codes "uphillcost" ∷ codes "100" ∷ codes "assign" ∷ codes "uphillcutoff" ∷ codes "1.5"
    ∷ codes "---context:way" ∷ codes "assign" ∷ codes "costfactor" ∷ codes "1" ∷ []

-- the text is that of the words
hill_text-words : hill_text ≡ spaced hill_words
unfolding hill_text
hill_text-words = refl

-- they are words
hill_words-are : are_words hill_words ≡ true
hill_words-are = refl

-- the price of climbing
cost-read : (ts : List Token) →
    assignment_of (place (token_is 1 (codes "uphillcost") ∷ token_is 1 (codes "100") ∷ ts)) ≡
    read (assignment (codes "uphillcost") 100000000) (place ts)
unfolding assignment_of expr_of most_depth taken kind_of word_of op_of section_of plain_kind literal_of cut_millionths
cost-read ts = refl

-- the slope beyond which it counts
cutoff-read : (ts : List Token) →
    assignment_of (place (token_is 1 (codes "uphillcutoff") ∷ token_is 1 (codes "1.5") ∷ ts)) ≡
    read (assignment (codes "uphillcutoff") 1500000) (place ts)
unfolding assignment_of expr_of most_depth taken kind_of word_of op_of section_of plain_kind literal_of cut_millionths
cutoff-read ts = refl

-- the factor of each metre
factor-read : (ts : List Token) →
    assignment_of (place (token_is 1 (codes "costfactor") ∷ token_is 1 (codes "1") ∷ ts)) ≡
    read (assignment (codes "costfactor") 1000000) (place ts)
unfolding assignment_of expr_of most_depth taken kind_of word_of op_of section_of plain_kind literal_of cut_millionths
factor-read ts = refl

-- nothing is left
at_end : (parts : ℕ) (current : Option Section) → is_ok (sections parts current []) ≡ true
unfolding sections_within
at_end parts current = refl

-- the words are sections
hill_words-accepted : is_ok (sections 98 None (map (token_is 1) hill_words)) ≡ true
hill_words-accepted =
    ap is_ok (opening-global 97 _)
    ∙ assigning 96 Global _ _ (assignment (codes "uphillcost") 100000000) (cost-read _)
    ∙ assigning 95 Global _ _ (assignment (codes "uphillcutoff") 1500000) (cutoff-read _)
    ∙ ap is_ok (opening-way 94 _)
    ∙ assigning 93 Way _ [] (assignment (codes "costfactor") 1000000) (factor-read [])
    ∙ at_end 93 (Some Way)

-- the sections of a text's tokens
profile-tokens : (text : List ℕ) (ts : List Token) → tokens_from false 1 text ≡ ts → length text ≡ 98 →
    profile_of text ≡ sections 98 None ts
unfolding profile_of
profile-tokens text ts tokens size =
    ap (λ n. sections_within n None 1 (tokens_from false 1 text)) size ∙ ap (sections 98 None) tokens

-- the text has so many bytes
hill_text-size : length hill_text ≡ 98
unfolding hill_text
hill_text-size = refl

-- the text is a profile
pub hill-accepted : is_ok (profile_of hill_text) ≡ true
hill-accepted =
    ap is_ok
    (profile-tokens hill_text (map (token_is 1) hill_words) (ap (tokens_from false 1) hill_text-words
    ∙ words_are_tokens 1 hill_words hill_words-are) hill_text-size)
    ∙ hill_words-accepted
