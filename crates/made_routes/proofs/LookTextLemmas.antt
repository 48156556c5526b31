-- The text of hills' tag table is one: its lines, their forms, and the table of these.
use Rattle.std.proofs.Common.{◌≡◌, ℕ, Bool, true, false, cond, ◌&&◌, List, [], ◌∷◌, ◌++◌, map, reverse, None, Ok, Err, refl, ap, ap₂, ◌∙◌}
use Rattle.std.specs.Prelude.{codes, is_ok, ◌==◌}
use Rattle.std.specs.List.{onto_first}
use Rattle.lookup_table.specs.First.{TagTable, begins_as}
use Rattle.lookup_table.specs.Line.{LineForm, LookupVersion, MinorVersion, Opens, Skipped, TagLine, is_in_line, line_form, lines_of}
use Rattle.lookup_table.specs.Table.{first_fault, forms_of, has_versions, rows_after, table_of, unless_fault, whole_table}
use Rattle.lookup_table.specs.declared.error.LookupError.TheVariants.{FirstTag, Version}
use Rattle.lookup_table.specs.declared.part.Part.TheVariants.{Node, Way}
use Rattle.made_routes.specs.Texts.{look_text}
use Rattle.std.proofs.lemmas.Bool.{and_parts, not-true}
use Rattle.lookup_table.proofs.CallerLemmas.{line_form-empty}
use Rattle.made_routes.proofs.LookFormLemmas.{form-lookup_version, form-minor_version, form-way, form-reversedirection-yes, form-highway-residential, form-highway-primary, form-highway-track, form-highway-cycleway, form-oneway-yes, form-oneway-no, form-bicycle-yes, form-bicycle-no, form-junction-roundabout, form-route_bicycle_rcn-yes, form-node, form-nodeaccessgranted-yes, form-barrier-gate, form-barrier-bollard}

-- ---- Lines

-- bytes of one line
abbrev are_in_line : List ℕ → Bool
are_in_line [] = true
are_in_line (c ∷ cs) = is_in_line c && are_in_line cs

-- lines alone
abbrev are_lines : List (List ℕ) → Bool
are_lines [] = true
are_lines (l ∷ ls) = are_in_line l && are_lines ls

-- the text of lines, each with its end
abbrev lined : List (List ℕ) → List ℕ
lined [] = []
lined (l ∷ ls) = l ++ 10 ∷ lined ls

-- a line and its end are a line
line_first : (l rest : List ℕ) → are_in_line l ≡ true → lines_of (l ++ 10 ∷ rest) ≡ l ∷ lines_of rest
line_first [] rest h = refl
line_first (c ∷ cs) rest h =
    let test = and_parts (is_in_line c) (are_in_line cs) h in
    ap (λ b. cond b ([] ∷ lines_of (cs ++ 10 ∷ rest)) (onto_first c (lines_of (cs ++ 10 ∷ rest)))) (not-true (c == 10) test.0)
    ∙ ap (onto_first c) (line_first cs rest test.1)

-- the lines of the text of lines, and an empty one behind the last end
lines_are : (ls : List (List ℕ)) → are_lines ls ≡ true → lines_of (lined ls) ≡ ls ++ [] ∷ []
lines_are [] h = refl
lines_are (l ∷ ls) h =
    let test = and_parts (are_in_line l) (are_lines ls) h in
    line_first l (lined ls) test.0 ∙ ap (λ (xs : List (List ℕ)). l ∷ xs) (lines_are ls test.1)

-- the lines of the text
abbrev look_lines : List (List ℕ)
look_lines =
    codes "---lookupversion:10"
    ∷ codes "---minorversion:1"
    ∷ []
    ∷ codes "---context:way"
    ∷ codes "reversedirection;0000000000 yes"
    ∷ codes "highway;0000000400 residential"
    ∷ codes "highway;0000000300 primary"
    ∷ codes "highway;0000000200 track"
    ∷ codes "highway;0000000100 cycleway"
    ∷ codes "oneway;0000000020 yes true 1"
    ∷ codes "oneway;0000000010 no"
    ∷ codes "bicycle;0000000020 yes"
    ∷ codes "bicycle;0000000010 no"
    ∷ codes "junction;0000000010 roundabout"
    ∷ codes "route_bicycle_rcn;0000000000 yes"
    ∷ []
    ∷ codes "---context:node"
    ∷ codes "nodeaccessgranted;0000000000 yes"
    ∷ codes "barrier;0000000020 gate"
    ∷ codes "barrier;0000000010 bollard"
    ∷ codes "bicycle;0000000020 yes"
    ∷ codes "bicycle;0000000010 no" ∷ []

-- the text is that of the lines
look_text-lines : look_text ≡ lined look_lines
unfolding look_text
look_text-lines = refl

-- they are lines
look_lines-are : are_lines look_lines ≡ true
look_lines-are = refl

-- the forms of the lines, the last first
abbrev look_forms : List LineForm
look_forms =
    Skipped
    ∷ TagLine (codes "bicycle") (codes "no" ∷ [])
    ∷ TagLine (codes "bicycle") (codes "yes" ∷ [])
    ∷ TagLine (codes "barrier") (codes "bollard" ∷ [])
    ∷ TagLine (codes "barrier") (codes "gate" ∷ [])
    ∷ TagLine (codes "nodeaccessgranted") (codes "yes" ∷ [])
    ∷ Opens Node
    ∷ Skipped
    ∷ TagLine (codes "route_bicycle_rcn") (codes "yes" ∷ [])
    ∷ TagLine (codes "junction") (codes "roundabout" ∷ [])
    ∷ TagLine (codes "bicycle") (codes "no" ∷ [])
    ∷ TagLine (codes "bicycle") (codes "yes" ∷ [])
    ∷ TagLine (codes "oneway") (codes "no" ∷ [])
    ∷ TagLine (codes "oneway") (codes "yes" ∷ codes "true" ∷ codes "1" ∷ [])
    ∷ TagLine (codes "highway") (codes "cycleway" ∷ [])
    ∷ TagLine (codes "highway") (codes "track" ∷ [])
    ∷ TagLine (codes "highway") (codes "primary" ∷ [])
    ∷ TagLine (codes "highway") (codes "residential" ∷ [])
    ∷ TagLine (codes "reversedirection") (codes "yes" ∷ [])
    ∷ Opens Way
    ∷ Skipped
    ∷ MinorVersion
    ∷ LookupVersion ∷ []

-- the forms of the lines, the first first
abbrev look_forms_in_order : List LineForm
look_forms_in_order =
    LookupVersion
    ∷ MinorVersion
    ∷ Skipped
    ∷ Opens Way
    ∷ TagLine (codes "reversedirection") (codes "yes" ∷ [])
    ∷ TagLine (codes "highway") (codes "residential" ∷ [])
    ∷ TagLine (codes "highway") (codes "primary" ∷ [])
    ∷ TagLine (codes "highway") (codes "track" ∷ [])
    ∷ TagLine (codes "highway") (codes "cycleway" ∷ [])
    ∷ TagLine (codes "oneway") (codes "yes" ∷ codes "true" ∷ codes "1" ∷ [])
    ∷ TagLine (codes "oneway") (codes "no" ∷ [])
    ∷ TagLine (codes "bicycle") (codes "yes" ∷ [])
    ∷ TagLine (codes "bicycle") (codes "no" ∷ [])
    ∷ TagLine (codes "junction") (codes "roundabout" ∷ [])
    ∷ TagLine (codes "route_bicycle_rcn") (codes "yes" ∷ [])
    ∷ Skipped
    ∷ Opens Node
    ∷ TagLine (codes "nodeaccessgranted") (codes "yes" ∷ [])
    ∷ TagLine (codes "barrier") (codes "gate" ∷ [])
    ∷ TagLine (codes "barrier") (codes "bollard" ∷ [])
    ∷ TagLine (codes "bicycle") (codes "yes" ∷ [])
    ∷ TagLine (codes "bicycle") (codes "no" ∷ [])
    ∷ Skipped ∷ []

-- each line has its form
lines-forms : map line_form (look_lines ++ [] ∷ []) ≡ look_forms_in_order
lines-forms =
    ap₂ ◌∷◌ form-lookup_version (
    ap₂ ◌∷◌ form-minor_version (
    ap₂ ◌∷◌ line_form-empty (
    ap₂ ◌∷◌ form-way (
    ap₂ ◌∷◌ form-reversedirection-yes (
    ap₂ ◌∷◌ form-highway-residential (
    ap₂ ◌∷◌ form-highway-primary (
    ap₂ ◌∷◌ form-highway-track (
    ap₂ ◌∷◌ form-highway-cycleway (
    ap₂ ◌∷◌ form-oneway-yes (
    ap₂ ◌∷◌ form-oneway-no (
    ap₂ ◌∷◌ form-bicycle-yes (
    ap₂ ◌∷◌ form-bicycle-no (
    ap₂ ◌∷◌ form-junction-roundabout (
    ap₂ ◌∷◌ form-route_bicycle_rcn-yes (
    ap₂ ◌∷◌ line_form-empty (
    ap₂ ◌∷◌ form-node (
    ap₂ ◌∷◌ form-nodeaccessgranted-yes (
    ap₂ ◌∷◌ form-barrier-gate (
    ap₂ ◌∷◌ form-barrier-bollard (
    ap₂ ◌∷◌ form-bicycle-yes (
    ap₂ ◌∷◌ form-bicycle-no (
    ap₂ ◌∷◌ line_form-empty (refl)))))))))))))))))))))))

-- the last first
forms-turned : reverse look_forms_in_order ≡ look_forms
forms-turned = refl

-- the forms of the text
forms-are : forms_of look_text ≡ look_forms
forms-are =
    ap (λ ls. reverse (map line_form ls)) (ap lines_of look_text-lines ∙ lines_are look_lines look_lines-are)
    ∙ ap reverse lines-forms ∙ forms-turned

-- ---- The table

-- no line is at fault
no-fault : first_fault look_forms ≡ None
no-fault = refl

-- both versions are there
versions : has_versions look_forms ≡ true
versions = refl

-- the tags of ways begin as they must
ways : begins_as Way (rows_after Way look_forms) ≡ true
ways = refl

-- the tags of nodes begin as they must
nodes : begins_as Node (rows_after Node look_forms) ≡ true
nodes = refl

-- a table of which all is there
whole : (versions way node : Bool) (table : TagTable) → versions ≡ true → way ≡ true → node ≡ true →
    is_ok (cond versions (cond way (cond node (Ok table) (Err (FirstTag Node))) (Err (FirstTag Way))) (Err Version)) ≡ true
whole true true true table a b c = refl
whole true true false table a b c = absurd cc
whole true false node table a b c = absurd cc
whole false way node table a b c = absurd cc

-- these forms are a table
forms-accepted : is_ok (unless_fault (first_fault look_forms) (whole_table look_forms)) ≡ true
forms-accepted =
    ap (λ fault. is_ok (unless_fault fault (whole_table look_forms))) no-fault
    ∙ whole (has_versions look_forms) (begins_as Way (rows_after Way look_forms)) (begins_as Node (rows_after Node look_forms))
    (record { way = rows_after Way look_forms; node = rows_after Node look_forms }) versions ways nodes

-- the text is a tag table
pub look-accepted : is_ok (table_of look_text) ≡ true
unfolding table_of
look-accepted = ap (λ forms. is_ok (unless_fault (first_fault forms) (whole_table forms))) forms-are ∙ forms-accepted
