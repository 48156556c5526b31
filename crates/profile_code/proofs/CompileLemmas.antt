-- The code that was put together is that of the profile.
use Rattle.std.proofs.Common.{◌≡◌, ℕ, max, List, [], length, map, ℤ, ap, ◌∙◌}
use Rattle.context_check.specs.Checked.{Subject}
use Rattle.context_check.specs.Refusal.{names_in}
use Rattle.lookup_table.specs.First.{TagTable}
use Rattle.lookup_table.specs.Tag.{TagRow}
use Rattle.profile_code.proofs.SectionLemmas.{under, unchanged}
use Rattle.profile_code.specs.Emit.{section_code, section_height}
use Rattle.profile_code.specs.Flat.{Flat, FlatSection, flat_of, global_assignments}
use Rattle.profile_text.specs.Expr.{assignment_in, sections_in}
use Rattle.profile_text.specs.Meaning.{overridden}
use Rattle.profile_text.specs.Tree.{Assignment, Sections}
use Rattle.profile_text.specs.declared.profile.Assign.{Assign}
use Rattle.profile_text.specs.declared.profile.Profile.{Profile}

-- the code of a section under overrides, with its names and its greatest height
pub record IsSectionCode (rows : List TagRow) (global : List (List ℕ)) (overrides : List (List ℕ × ℤ)) (assigns : List Assign)
    (s : FlatSection) (height : ℕ) : Type 0 where
  pub code : s.instrs ≡ section_code rows global [] (under overrides assigns)
  pub named : s.names ≡ names_in (map assignment_in assigns)
  pub high : height ≡ section_height (under overrides assigns)

-- sections with the same operations and names are the same
same_section : (a b : FlatSection) → a.instrs ≡ b.instrs → a.names ≡ b.names → a ≡ b
same_section a b instrs names =
    let e : a ≡ record { instrs = b.instrs; names = a.names } = ap (λ i. record { instrs = i; names = a.names }) instrs in
    let f : record { instrs = b.instrs; names = a.names } ≡ b = ap (λ n. record { instrs = b.instrs; names = n }) names in
    e ∙ f

-- codes with the same parts are the same
same_flat : (a b : Flat) → a.global ≡ b.global → a.way ≡ b.way → a.node ≡ b.node → a.way_tags ≡ b.way_tags →
    a.node_tags ≡ b.node_tags → a.room ≡ b.room → a ≡ b
same_flat a b global way node way_tags node_tags room =
    let Same : Flat → Type 0 = λ x. a ≡ x in
    let e1 : a ≡ record a { global = b.global } = ap (λ x. record a { global = x }) global in
    let e2 : a ≡ record a { global = b.global; way = b.way } = e1 ∙ ap (λ x. record a { global = b.global; way = x }) way in
    let e3 : a ≡ record a { global = b.global; way = b.way; node = b.node } =
    e2 ∙ ap (λ x. record a { global = b.global; way = b.way; node = x }) node in
    let e4 : a ≡ record a { global = b.global; way = b.way; node = b.node; way_tags = b.way_tags } =
    e3 ∙ ap (λ x. record a { global = b.global; way = b.way; node = b.node; way_tags = x }) way_tags in
    let e5 : a ≡ record a { global = b.global; way = b.way; node = b.node; way_tags = b.way_tags; node_tags = b.node_tags } =
    e4 ∙ ap (λ x. record a { global = b.global; way = b.way; node = b.node; way_tags = b.way_tags; node_tags = x }) node_tags in
    e5 ∙ ap (λ x. record a { global = b.global; way = b.way; node = b.node; way_tags = b.way_tags; node_tags = b.node_tags; room = x }) room

-- what code was put together from, and the code
pub record Parts : Type 0 where
  pub table : TagTable
  pub overrides : List (List ℕ × ℤ)
  pub none : List (List ℕ × ℤ)
  pub no_names : List (List ℕ)
  pub globals : List Assign
  pub ways : List Assign
  pub nodes : List Assign
  pub flat : Flat
  pub global_height : ℕ
  pub way_height : ℕ
  pub node_height : ℕ

-- the parts are those of a profile that was checked, and each section has its code
pub record AreParts (subject : Subject) (profile : Profile) (p : Parts) : Type 0 where
  pub sections : sections_in profile ≡ subject.sections
  pub table : p.table ≡ subject.table
  pub overrides : p.overrides ≡ subject.overrides
  pub none : p.none ≡ []
  pub no_names : p.no_names ≡ []
  pub globals : p.globals ≡ profile.global
  pub ways : p.ways ≡ profile.way
  pub nodes : p.nodes ≡ profile.node
  pub of_global : IsSectionCode [] p.no_names p.overrides p.globals p.flat.global p.global_height
  pub of_way : IsSectionCode p.table.way p.flat.global.names p.none p.ways p.flat.way p.way_height
  pub of_node : IsSectionCode p.table.node p.flat.global.names p.none p.nodes p.flat.node p.node_height
  pub way_tags : p.flat.way_tags ≡ length p.table.way
  pub node_tags : p.flat.node_tags ≡ length p.table.node
  pub room : p.flat.room ≡ max p.global_height (max p.way_height p.node_height)

-- the section of a part has its code, where nothing is overridden
module _ (none : List (List ℕ × ℤ)) (assigns : List Assign) (assigned : List Assignment) (is_none : none ≡ [])
    (are : map assignment_in assigns ≡ assigned) where
  -- so it is that of the profile's assignments, under the same tags and after the same names
  own_coded : (rows rows' : List TagRow) (names names' : List (List ℕ)) → rows ≡ rows' → names ≡ names' →
      section_code rows names [] (under none assigns) ≡ section_code rows' names' [] assigned
  own_coded rows rows' names names' e f =
      ap (λ r. section_code r names [] (under none assigns)) e
      ∙ ap (λ n. section_code rows' n [] (under none assigns)) f
      ∙ ap (section_code rows' names' []) (unchanged none (map assignment_in assigns) is_none ∙ are)

-- the three sections of a checked profile, put together, are its code
pub compiled : (subject : Subject) (profile : Profile) (p : Parts) → AreParts subject profile p → p.flat ≡ flat_of subject
unfolding flat_of
compiled subject profile p are =
    let s = subject.sections in
    let in_global : map assignment_in p.globals ≡ s.global =
    ap (map assignment_in) are.globals ∙ ap (λ (x : Sections). x.global) are.sections in
    let in_way : map assignment_in p.ways ≡ s.way = ap (map assignment_in) are.ways ∙ ap (λ (x : Sections). x.way) are.sections in
    let in_node : map assignment_in p.nodes ≡ s.node = ap (map assignment_in) are.nodes ∙ ap (λ (x : Sections). x.node) are.sections in
    let under_global : under p.overrides p.globals ≡ global_assignments subject =
    ap (λ o. map (overridden o) (map assignment_in p.globals)) are.overrides ∙ ap (map (overridden subject.overrides)) in_global in
    let under_way : under p.none p.ways ≡ s.way = unchanged p.none (map assignment_in p.ways) are.none ∙ in_way in
    let under_node : under p.none p.nodes ≡ s.node = unchanged p.none (map assignment_in p.nodes) are.none ∙ in_node in
    let names : p.flat.global.names ≡ names_in s.global = are.of_global.named ∙ ap names_in in_global in
    let deepest = section_height (global_assignments subject) in
    same_flat p.flat (flat_of subject)
    (same_section p.flat.global (flat_of subject).global
    (are.of_global.code
    ∙ ap (λ g. section_code [] g [] (under p.overrides p.globals)) are.no_names
    ∙ ap (section_code [] [] []) under_global)
    names)
    (same_section p.flat.way (flat_of subject).way
    (are.of_way.code
    ∙ own_coded p.none p.ways s.way are.none in_way p.table.way subject.table.way _ _ (ap (λ (t : TagTable). t.way) are.table) names)
    (are.of_way.named ∙ ap names_in in_way))
    (same_section p.flat.node (flat_of subject).node
    (are.of_node.code
    ∙ own_coded p.none p.nodes s.node are.none in_node p.table.node subject.table.node _ _ (ap (λ (t : TagTable). t.node) are.table) names)
    (are.of_node.named ∙ ap names_in in_node))
    (are.way_tags ∙ ap (λ (t : TagTable). length t.way) are.table)
    (are.node_tags ∙ ap (λ (t : TagTable). length t.node) are.table)
    (are.room
    ∙ ap (λ h. max h (max p.way_height p.node_height)) (are.of_global.high ∙ ap section_height under_global)
    ∙ ap (λ h. max deepest (max h p.node_height)) (are.of_way.high ∙ ap section_height under_way)
    ∙ ap (λ h. max deepest (max (section_height s.way) h)) (are.of_node.high ∙ ap section_height under_node))
