use Rattle.std.proofs.Common.{◌+◌, ◌/◌}
use Rattle.run_files.proofs.NoteLemmas.{parts-more}
use Rattle.run_files.specs.NoteLines.{part_note, part_size}
use Rattle.run_files.proofs.note_lines.note_part.Goals as goal

pub returns-then-before-parts : goal.returns-then-before-parts
returns-then-before-parts g c = record {
  noted = λ first so_far.
      let file = c.args.file.now in
      parts-more file c.args.before c.args.more first c.args.notes.now c.note.new.self c.requires.small c.if-before-parts.true so_far
      (c.note.ensures.noted (part_note file ((c.args.before + c.args.more) / part_size)) c.part_line.ensures.exact);
}
