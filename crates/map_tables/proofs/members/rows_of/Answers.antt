use Rattle.std.proofs.Common.{◌≡◌, ◌∙◌, ℕ, ◌+◌, [], ◌∷◌, ◌++◌, sym, ap, subst, map, take, length, length-append, arith, List}
use Rattle.std.proofs.lemmas.List.{map-append}
use Rattle.map_tables.specs.Rows.{member_of, row_behind, LieWithin}
use Rattle.map_tables.specs.declared.member.Member.{Member}
use Rattle.map_tables.specs.declared.members.MemberRow.{MemberRow}
use Rattle.map_tables.proofs.ListLemmas.{take_one_more}
use Rattle.map_tables.proofs.MemberLemmas.{member_of-behind, members-extended, LieWithin-append}
use Rattle.map_tables.proofs.members.rows_of.Goals as goal

pub each-preserved : goal.each-preserved
each-preserved c =
    let words : List ℕ = c.each.words.items in
    let member : Member = c.member-item.result in
    let all : List ℕ = words ++ (member.kind ++ member.role) in
    let last : c.push.new.self.items ≡ c.each.rows.items ++ row_behind (length words) member ∷ [] =
    c.in_ok-push.ensures.items ∙ ap (λ (r : MemberRow). c.each.rows.items ++ r ∷ []) c.in_ok-row.ensures.value in
    let long : length all ≡ length words + (length member.kind + length member.role) =
    length-append words (member.kind ++ member.role) ∙ ap (λ n. length words + n) (length-append member.kind member.role) in
    record {
      value = ap (λ ws. map (member_of ws) c.push.new.self.items) c.in_ok-row.ensures.words
          ∙ ap (map (member_of all)) last
          ∙ map-append (member_of all) c.each.rows.items (row_behind (length words) member ∷ [])
          ∙ ap (λ (ms : List Member). ms ++ member_of all (row_behind (length words) member) ∷ [])
          (members-extended words (member.kind ++ member.role) c.each.rows.items c.each.invariant.within
          ∙ c.each.invariant.value)
          ∙ ap (λ (m : Member). take c.each.member-index c.args.members.now ++ m ∷ []) (member_of-behind words member)
          ∙ sym (take_one_more c.args.members.now c.each.member-index member c.each-test.true c.member-item.is);
      within = subst (λ ws. LieWithin (length ws) c.push.new.self.items) (sym c.in_ok-row.ensures.words)
          (subst (LieWithin (length all)) (sym last)
          (LieWithin-append (length words) (length all) c.each.rows.items (row_behind (length words) member)
          c.each.invariant.within (omega (arith, long))
          (record { kind = omega arith; role = omega arith; last = omega (arith, long) })));
    }
