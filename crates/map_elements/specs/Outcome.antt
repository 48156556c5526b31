-- What a map's text comes to: its elements, or its first fault (this project's own rule for the order of
-- faults).
use Rattle.std.specs.Prelude.{ℕ, suc, List, [], ◌∷◌, Bool, Option, Some, None, is_some, Result, Ok, Err, if◌then◌else◌, ◌≡◌}
use lib.Chars.{codes}
use Rattle.item_list.specs.Answer.{and_then}
use Rattle.json_text.specs.declared.step.Verdict.{Verdict}
use Rattle.json_text.specs.declared.step.Verdict.TheVariants as verdict_
use Rattle.json_text.specs.Marks.{Step}
use Rattle.json_text.specs.Reading.{Reads}
use Rattle.map_tables.specs.Draft.{Draft, empty, take_node, take_way, take_relation}
use Rattle.map_tables.specs.declared.limits.Limits.{Limits}
use Rattle.map_tables.specs.declared.error.MapError.{MapError}
use Rattle.map_tables.specs.declared.error.MapError.TheVariants.{NotJson, Shape}
use Rattle.map_elements.specs.Entries.{Entry, members_of, items_of, member, whole_values}
use Rattle.map_elements.specs.Fields.{with_some}
use Rattle.map_elements.specs.Elements.{Element, element_of}

-- a draft with one more element, or the fault
abbrev pub take_element : Limits → Element → Draft → Result Draft MapError
take_element limits (Element.Node node) draft = take_node limits node draft
take_element limits (Element.Way way) draft = take_way limits way draft
take_element limits (Element.Relation relation) draft = take_relation limits relation draft
take_element limits Element.Other draft = Ok draft

-- a draft with the elements of these whole values, of which the first stands at this place, or the first
-- fault
abbrev pub take_values : Limits → ℕ → List (List Step) → Draft → Result Draft MapError
take_values limits at [] draft = Ok draft
take_values limits at (value ∷ values) draft =
    and_then (element_of at value) (λ element.
    and_then (take_element limits element draft) (λ more.
    take_values limits (suc at) values more))

-- the items of the array that is the value of the first member `elements` of the top object, as far as they
-- have come
unfoldable pub elements_list : List Step → Option (List Entry)
elements_list steps = with_some (members_of steps)
    (λ entries. with_some (member (codes "elements") entries) items_of)

-- the values of the elements that are whole
abbrev pub whole_elements : Option (List Entry) → List (List Step)
whole_elements None = []
whole_elements (Some entries) = whole_values entries

-- what the whole elements come to, or the fault of the first of them that has one
abbrev pub draft_of : Limits → List Step → Result Draft MapError
draft_of limits steps = take_values limits 1 (whole_elements (elements_list steps)) empty

-- what there is to say behind all fixed steps, where the whole elements come to this draft
abbrev pub verdict_on : Draft → Bool → Verdict → Result Draft MapError
verdict_on draft has_list verdict_.More = Ok draft
verdict_on draft has_list (verdict_.BadAt at) = Err (NotJson at)
verdict_on draft has_list verdict_.Whole = if has_list then Ok draft else Err (Shape 0)

-- what a text comes to, of which these are the fixed steps and the verdict behind them: the fault of a whole
-- element comes first, then that of the JSON text, and the form of the whole at the end
abbrev pub outcome_of : Limits → List Step → Verdict → Result Draft MapError
outcome_of limits steps verdict =
    and_then (draft_of limits steps) (λ draft. verdict_on draft (is_some (elements_list steps)) verdict)

-- the bytes of a text, with its end or without, come to this
pub record ComesTo (limits : Limits) (bytes : List ℕ) (ended : Bool) (outcome : Result Draft MapError) :
    Type 0 where
  pub steps : List Step
  pub verdict : Verdict
  pub reads : Reads bytes ended steps verdict
  pub same : outcome_of limits steps verdict ≡ outcome
