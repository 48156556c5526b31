use Rattle.std.proofs.Common.{◌≡◌, length}
use Rattle.command_words.proofs.ReadLemmas.{after-next, counted-next}
use Rattle.command_words.proofs.reader.read_entries.Goals as goal

pub words-preserved : goal.words-preserved
words-preserved c =
    let counted : c.len.result ≡ length c.words.entries.items = (let same = c.words.entries.ok.0 in let is = c.len.ensures in cc) in
    record {
      counted = counted-next c.words.entries.items c.push.new.self.items c.in-Some.entry c.words.word-index c.in-Ok.ensures.items
          c.words.invariant.counted;
      rest = after-next c.args.keys.now c.args.words.now c.words.word-index c.word-item.result c.words.entries.items c.push.new.self.items
          c.as_slice.result.now c.in-Some.entry _ c.len.result c.as_str.result.now c.entry_of.result c.may_follow.result c.words-test.true
          c.word-item.is c.words.invariant.rest counted c.as_str.ensures.value c.entry_of.ensures.exact c.in-Some.is
          c.as_slice.ensures.value c.may_follow.ensures.exact c.if-not-may_follow.false c.in-Ok.ensures.items;
    }
