use Rattle.std.proofs.Common.{◌∙◌, [], ap, max, refl}
use Rattle.context_check.specs.Subject.{subject_of}
use Rattle.profile_code.specs.Emit.{section_code}
use Rattle.profile_code.specs.Flat.{FlatSection}
use Rattle.profile_code.proofs.CompileLemmas.{Parts, compiled}
use Rattle.profile_code.proofs.SectionLemmas.{under}
use Rattle.profile_code.proofs.compiler.parts_of.Goals as goal

pub returns-clause-value : goal.returns-clause-value
returns-clause-value c =
    let table = c.table-table.result.now in
    let ways = c.as_slice-ways.result.now in
    let nodes = c.as_slice-nodes.result.now in
    let names = ap (λ (s : FlatSection). s.names) c.global.view_is in
    let parts : Parts = record {
      table = table;
      overrides = c.overrides.result.now;
      none = [];
      no_names = [];
      globals = c.as_slice-globals.result.now;
      ways = ways;
      nodes = nodes;
      flat = record {
        global = c.in_ok-global.global;
        way = c.in_ok-way.way;
        node = c.in_ok-node.node;
        way_tags = c.tags.result;
        node_tags = c.tags-2.result;
        room = c.max-2.result;
      };
      global_height = c.in_ok-global.room;
      way_height = c.in_ok-way.way_room;
      node_height = c.in_ok-node.node_room;
    } in
    compiled (subject_of c.args.checked.now) c.profile-profile.result.now parts (record {
      sections = c.profile-profile.ensures.value;
      table = c.table-table.ensures.value;
      overrides = c.overrides.ensures.value;
      none = refl;
      no_names = refl;
      globals = c.as_slice-globals.ensures.value;
      ways = c.as_slice-ways.ensures.value;
      nodes = c.as_slice-nodes.ensures.value;
      of_global = record { code = c.in_ok-global.ensures.value; named = c.in_ok-global.ensures.same; high = c.in_ok-global.ensures.exact };
      of_way = record {
        code = c.in_ok-way.ensures.value ∙ ap (λ g. section_code table.way g [] (under [] ways)) names;
        named = c.in_ok-way.ensures.same;
        high = c.in_ok-way.ensures.exact;
      };
      of_node = record {
        code = c.in_ok-node.ensures.value ∙ ap (λ g. section_code table.node g [] (under [] nodes)) names;
        named = c.in_ok-node.ensures.same;
        high = c.in_ok-node.ensures.exact;
      };
      way_tags = c.tags.ensures.value;
      node_tags = c.tags-2.ensures.value;
      room = c.max-2.ensures ∙ ap (max c.in_ok-global.room) c.max.ensures;
    })
