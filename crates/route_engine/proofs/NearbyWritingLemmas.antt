-- The text of what lies within a cost, one step further.
use Rattle.std.proofs.Common.{◌≡◌, ℕ, suc, ◌+◌, ◌-◌, ◌*◌, ◌≤◌, List, [], ◌∷◌, ◌++◌, length, drop, Option, Some, None, Vec, refl, sym, ap, ◌∙◌, subst, arith, append_assoc, append-nil}
use Rattle.std.proofs.lemmas.List.{drop_all}
use Rattle.std.specs.declared.alloc.Global.{Global}
use Rattle.std.specs.declared.vec.IntoIter.{IntoIter}
use Rattle.std.specs.Vec.Iter.{into_iter_items}
use Rattle.item_list.specs.declared.turn.Turn.TheVariants.{More}
use Rattle.tasks.specs.declared.steps.Stepped.{Stepped}
use Rattle.route_http.specs.declared.form.Form.{Form}
use Rattle.route_http.specs.declared.form.Form.TheVariants.{GeoJson, Csv}
use Rattle.route_ready.specs.Worlds.{WorldValue}
use Rattle.route_ready.specs.declared.ready.Ready.{Ready}
use Rattle.track_reply.specs.Source.{Source}
use Rattle.route_engine.specs.Nearby.{Costed, lists_in}
use Rattle.route_engine.specs.NearbyAnswers.{most_for_feature, most_for_features, near_cost, near_id, near_position, nearby_reply, nearby_text}
use Rattle.route_engine.specs.NearbyTexts.{FitMap, FitsMap, GoesToPart, IsNearbyText, first_part, items_from, list_head, lists_behind, lists_text, nearby_comes_to, part_end, part_rows, parts_left, reply_head, rows_from, text_left}
use Rattle.route_engine.specs.Texts.{StepsText}
use Rattle.route_engine.specs.Told.{source_by}
use Rattle.route_engine.specs.declared.nearby_parts.Part.{Part}
use Rattle.route_engine.specs.declared.nearby_parts.Part.TheVariants.{Ids, Costs, Places, Lines}
use Rattle.route_engine.specs.declared.nearby_text.Lists.{Lists}
use Rattle.route_engine.specs.declared.nearby_text.NearbyText.{NearbyText}
use Rattle.route_engine.specs.declared.nearby_text.Rows.{Rows}
use Rattle.route_engine.specs.declared.told.Told.{Told}
use Rattle.route_engine.specs.declared.within.Nearby.{Nearby}
use Rattle.route_engine.proofs.RowLemmas.{csv-whole, geojson-whole}

-- what begins comes to the reply
pub reply-whole : (form : Form) (source : Source) (found : Nearby) →
    reply_head form ++ lists_text form source found.cost 0 (lists_in found.lists.items) ≡ nearby_reply form source found
reply-whole GeoJson source found = geojson-whole source found.cost (lists_in found.lists.items)
reply-whole Csv source found = csv-whole source found.cost (lists_in found.lists.items)

-- behind the last row of a part there is none
rows-over : (part : Part) (source : Source) (number : ℕ) (list : Costed) (place : ℕ) → place ≡ length list →
    part_rows part source number list place ≡ []
rows-over part source number list place whole = go part
  where
    none : drop place list ≡ []
    none = drop_all place list (omega (arith, whole))

    go : (part : Part) → part_rows part source number list place ≡ []
    go Ids = ap (items_from (near_id source.map) place) none
    go Costs = ap (items_from near_cost place) none
    go Places = ap (items_from (near_position source) place) none
    go Lines = ap (nearby_text source.map number) none

-- what stands behind both stays
behind-both : (a b x y e l : List ℕ) → a ++ x ≡ b ++ y → a ++ ((x ++ e) ++ l) ≡ b ++ ((y ++ e) ++ l)
behind-both a b x y e l same =
    ap (λ t. a ++ t) (append_assoc x e l) ∙ sym (append_assoc a x (e ++ l)) ∙ ap (λ t. t ++ (e ++ l)) same
    ∙ append_assoc b y (e ++ l) ∙ ap (λ t. b ++ t) (sym (append_assoc y e l))

module _ (world : WorldValue) (ready : Ready) (told : Told) (budget : ℕ) (some : 1 ≤ budget) where
  -- what is told from
  abbrev source : Source
  source = source_by world ready told

  -- what a step comes to
  abbrev pub Writes : NearbyText → Stepped NearbyText (Vec ℕ Global) → Type 0
  Writes before =
      StepsText (IsNearbyText world) (nearby_comes_to world ready told) (text_left world) budget before

  -- the next list begins
  pub list-begins : (text new : Vec ℕ Global) (lists : Lists) (rest : IntoIter (Vec (ℕ × ℕ) Global) Global) (list : Vec (ℕ × ℕ) Global) →
      into_iter_items lists.rest ≡ list ∷ into_iter_items rest →
      new.items ≡ text.items ++ list_head told.form source lists.cost lists.number →
      IsNearbyText world (record { text = text; rows = None; lists = lists }) →
      Writes (record { text = text; rows = None; lists = lists }) (record {
        spent = 1;
        turn = More (record {
          text = new;
          rows = Some (record { list = list; part = first_part told.form; place = 0 });
          lists = record { cost = lists.cost; number = lists.number; rest = rest };
        });
      })
  list-begins text new lists rest list grown added on =
      let form = told.form in
      let here : lists_behind lists ≡ list.items ∷ lists_in (into_iter_items rest) = ap lists_in grown in
      let fit = subst (FitMap world.map) here on.lists in
      let count : length (lists_behind lists) ≡ suc (length (lists_in (into_iter_items rest))) = ap length here in
      let rows = rows_from source lists.number (first_part form) list.items 0 in
      let later = lists_text form source lists.cost (suc lists.number) (lists_in (into_iter_items rest)) in
      let head = list_head form source lists.cost lists.number in
      record {
        fits = some;
        turn = record {
          on = record {
            rows = record { fits = fit.0; within = omega arith };
            lists = fit.1;
            few = omega (arith, on.few, count);
          };
          same = ap (λ t. t ++ (rows ++ later)) added ∙ append_assoc text.items head (rows ++ later)
              ∙ ap (λ ls. text.items ++ lists_text form source lists.cost lists.number ls) (sym here);
          some = omega arith;
          less = list-less form (length world.map.nodes) (length (lists_in (into_iter_items rest))) (length (lists_behind lists)) count;
        };
      }
    where
      list-less : (form : Form) (nodes later before : ℕ) → before ≡ suc later →
          ((nodes - 0) + parts_left nodes (first_part form)) + most_for_features nodes later + 1 ≤ 0 + most_for_features nodes before
      list-less form nodes later before count =
          let one : before * most_for_feature nodes ≡ later * most_for_feature nodes + most_for_feature nodes =
          ap (λ (n : ℕ). n * most_for_feature nodes) count ∙ grind arith in
          go form one
        where
          go : (form : Form) → before * most_for_feature nodes ≡ later * most_for_feature nodes + most_for_feature nodes →
              ((nodes - 0) + parts_left nodes (first_part form)) + most_for_features nodes later + 1 ≤ 0 + most_for_features nodes before
          go GeoJson one = omega (arith, one)
          go Csv one = omega (arith, one)

  -- rows of a list are written
  pub rows-written : (text new : Vec ℕ Global) (lists : Lists) (list : Vec (ℕ × ℕ) Global) (part : Part) (place end spent : ℕ) →
      new.items ++ part_rows part source lists.number list.items end ≡ text.items ++ part_rows part source lists.number list.items place →
      end ≡ place + spent → 1 ≤ spent → spent ≤ budget → end ≤ length list.items →
      IsNearbyText world (record { text = text; rows = Some (record { list = list; part = part; place = place }); lists = lists }) →
      Writes (record { text = text; rows = Some (record { list = list; part = part; place = place }); lists = lists }) (record {
        spent = spent;
        turn = More (record { text = new; rows = Some (record { list = list; part = part; place = end }); lists = lists });
      })
  rows-written text new lists list part place end spent added goes one fits within on =
      let rows = on.rows in
      let few = rows.fits.few in
      record {
        fits = fits;
        turn = record {
          on = record { rows = record { fits = rows.fits; within = within }; lists = on.lists; few = on.few };
          same = behind-both new.items text.items (part_rows part source lists.number list.items end)
              (part_rows part source lists.number list.items place) (part_end part source list.items)
              (lists_text told.form source lists.cost (suc lists.number) (lists_behind lists)) added;
          some = one;
          less = omega (arith, goes, within, few);
        };
      }

  -- another part of the list begins
  pub part-begins : (text new : Vec ℕ Global) (lists : Lists) (list : Vec (ℕ × ℕ) Global) (part next : Part) (place : ℕ) →
      place ≡ length list.items → GoesToPart text.items new.items part (Some next) →
      IsNearbyText world (record { text = text; rows = Some (record { list = list; part = part; place = place }); lists = lists }) →
      Writes (record { text = text; rows = Some (record { list = list; part = part; place = place }); lists = lists }) (record {
        spent = 1;
        turn = More (record { text = new; rows = Some (record { list = list; part = next; place = 0 }); lists = lists });
      })
  part-begins text new lists list part next place whole goes on =
      let later = lists_text told.form source lists.cost (suc lists.number) (lists_behind lists) in
      let rows = on.rows in
      let few = rows.fits.few in
      let fewer = goes.fewer (length world.map.nodes) in
      record {
        fits = some;
        turn = record {
          on = record { rows = record { fits = rows.fits; within = omega arith }; lists = on.lists; few = on.few };
          same = sym (append_assoc new.items (rows_from source lists.number next list.items 0) later)
              ∙ ap (λ t. t ++ later) (goes.follows source lists.number list.items)
              ∙ append_assoc text.items (part_end part source list.items) later
              ∙ ap (λ t. text.items ++ ((t ++ part_end part source list.items) ++ later))
              (sym (rows-over part source lists.number list.items place whole));
          some = omega arith;
          less = omega (arith, fewer);
        };
      }

  -- the list is written
  pub list-ends : (text new : Vec ℕ Global) (lists : Lists) (list : Vec (ℕ × ℕ) Global) (part : Part) (place : ℕ) →
      place ≡ length list.items → GoesToPart text.items new.items part None →
      IsNearbyText world (record { text = text; rows = Some (record { list = list; part = part; place = place }); lists = lists }) →
      Writes (record { text = text; rows = Some (record { list = list; part = part; place = place }); lists = lists }) (record {
        spent = 1;
        turn = More (record { text = new; rows = None; lists = record { cost = lists.cost; number = lists.number + 1; rest = lists.rest } });
      })
  list-ends text new lists list part place whole goes on =
      let next : lists.number + 1 ≡ suc lists.number = omega arith in
      let later = lists_text told.form source lists.cost (suc lists.number) (lists_behind lists) in
      let fewer = goes.fewer (length world.map.nodes) in
      let less = on.few in
      record {
        fits = some;
        turn = record {
          on = record { rows = tt; lists = on.lists; few = omega (arith, less) };
          same = ap (λ (n : ℕ). new.items ++ lists_text told.form source lists.cost n (lists_behind lists)) next
              ∙ ap (λ t. t ++ later) (sym (append-nil new.items) ∙ goes.follows source lists.number list.items)
              ∙ append_assoc text.items (part_end part source list.items) later
              ∙ ap (λ t. text.items ++ ((t ++ part_end part source list.items) ++ later))
              (sym (rows-over part source lists.number list.items place whole));
          some = omega arith;
          less = omega (arith, fewer);
        };
      }
