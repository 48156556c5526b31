-- The flat code of a profile as a whole, and what a run of a section gives. This project's own rule.
use Rattle.std.specs.Prelude.{◌≡◌, ◌≢◌, ℕ, max, List, [], map, length, ℤ}
use Rattle.context_check.specs.Checked.{Subject}
use Rattle.context_check.specs.Refusal.{names_in}
use Rattle.lookup_table.specs.declared.part.Part.{Part}
use Rattle.lookup_table.specs.declared.part.Part.TheVariants.{Way, Node}
use Rattle.profile_code.specs.declared.instr.Instr.{Instr}
use Rattle.profile_code.specs.Emit.{section_code, section_height}
use Rattle.profile_code.specs.Machine.{Ended, Given, Finished, Stuck, run_of}
use Rattle.profile_text.specs.Meaning.{overridden}
use Rattle.profile_text.specs.declared.kind.Section.{Section}
use Rattle.profile_text.specs.declared.kind.Section.TheVariants as section
use Rattle.profile_text.specs.Tree.{Assignment}

-- the code of a section, and the names that its assignments set, in order
pub record FlatSection : Type 0 where
  pub instrs : List Instr
  pub names : List (List ℕ)

-- the code of the three sections; how many tags the two parts of the tag table have; and how many numbers a
-- stack holds at most
pub record Flat : Type 0 where
  pub global : FlatSection
  pub way : FlatSection
  pub node : FlatSection
  pub way_tags : ℕ
  pub node_tags : ℕ
  pub room : ℕ

-- ---- The code of a profile

-- the assignments of the global section under the overrides
abbrev pub global_assignments : Subject → List Assignment
global_assignments subject = map (overridden subject.overrides) subject.sections.global

-- the code of a checked profile
unfoldable pub flat_of : Subject → Flat
flat_of subject = record {
  global = record {
    instrs = section_code [] [] [] (global_assignments subject);
    names = names_in subject.sections.global;
  };
  way = record {
    instrs = section_code subject.table.way (names_in subject.sections.global) [] subject.sections.way;
    names = names_in subject.sections.way;
  };
  node = record {
    instrs = section_code subject.table.node (names_in subject.sections.global) [] subject.sections.node;
    names = names_in subject.sections.node;
  };
  way_tags = length subject.table.way;
  node_tags = length subject.table.node;
  room = max (section_height (global_assignments subject))
      (max (section_height subject.sections.way) (section_height subject.sections.node));
}

-- ---- The runs

-- the section of a part
abbrev pub own_section : Flat → Part → FlatSection
own_section flat Way = flat.way
own_section flat Node = flat.node

-- the code of a section
abbrev pub section_of : Flat → Section → FlatSection
section_of flat section.Global = flat.global
section_of flat section.Way = flat.way
section_of flat section.Node = flat.node

-- how many tags a part has
abbrev pub tags_of : Flat → Part → ℕ
tags_of flat Way = flat.way_tags
tags_of flat Node = flat.node_tags

-- the run of the global section
abbrev pub global_run : Flat → Ended
global_run flat =
    let names = flat.global.names in
    let given : Given = record { room = flat.room; most = length names; numbers = []; global = [] } in
    run_of given flat.global.instrs

-- the run of a part's section on tag numbers, after the values of the global section
abbrev pub own_run : Flat → Part → List ℕ → List ℤ → Ended
own_run flat part numbers values =
    let section = own_section flat part in
    let most = length section.names in
    let given : Given = record { room = flat.room; most = most; numbers = numbers; global = values } in
    run_of given section.instrs

-- no run is ever in want of an operand, of room, of a variable or of a tag
pub record IsSafe (flat : Flat) : Type 0 where
  pub global : global_run flat ≢ Stuck
  pub own :
      (part : Part) (numbers : List ℕ) (values : List ℤ) →
      length numbers ≡ tags_of flat part →
      global_run flat ≡ Finished values →
      own_run flat part numbers values ≢ Stuck
