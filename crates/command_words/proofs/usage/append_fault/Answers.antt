use Rattle.std.proofs.Common.{◌≡◌, ◌++◌, List, ℕ, OnOk, length, refl, subst, sym}
use Rattle.std.proofs.lemmas.Option.{slice_get_past, slice_get_read}
use Rattle.command_words.proofs.UsageLemmas.{fault-none, fault-some}
use Rattle.command_words.proofs.usage.append_fault.Goals as goal

pub returns-in-Some : goal.returns-in-Some
returns-in-Some c =
    let there = c.in-Some.ensures.lookup in
    let found = slice_get_read c.args.words.now (length c.args.words.now) c.args.at c.in-Some.word.now refl there.3.0 there.1 in
    record {
      exact = subst (λ (t : List ℕ). OnOk c.append_word_fault.result (c.append_word_fault.new.text.items ≡ c.args.text.now.items ++ t))
          (sym (fault-some c.args.keys.now c.args.words.now c.args.at c.in-Some.word.now c.as_str.result.now found c.as_str.ensures.value))
          c.append_word_fault.ensures.exact;
    }

pub returns-in-None : goal.returns-in-None
returns-in-None c =
    let found = slice_get_past c.args.words.now c.args.at c.in-None.ensures.lookup.3 in
    record {
      exact = subst (λ (t : List ℕ). OnOk c.append_end_fault.result (c.append_end_fault.new.text.items ≡ c.args.text.now.items ++ t))
          (sym (fault-none c.args.keys.now c.args.words.now c.args.at found)) c.append_end_fault.ensures.exact;
    }
