use Rattle.std.proofs.Common.{◌≡◌, ◌+◌, ◌*◌, ◌<◌, ◌++◌, [], ◌∷◌, length, get_or, drop, SFits, w16, sym, ap, ◌∙◌, rules, arith}
use Rattle.std.proofs.lemmas.List.{length-drop, append-nil}
use Rattle.std.proofs.lemmas.Int.{to_z-of_z}
use Rattle.hgt_tiles.proofs.FileLemmas.{samples_of-next, samples_of-short, read-at}
use Rattle.hgt_tiles.specs.File.{sample_of}
use Rattle.hgt_tiles.proofs.tile_file.samples_in.Goals as goal

pub loop-i-init : goal.loop-i-init
loop-i-init c = search rules

pub loop-i-preserved : goal.loop-i-preserved
loop-i-preserved c =
    let bytes = c.args.bytes.now in
    let i = c.loop-i.i in
    let inside : 2 * i + 1 < length bytes = omega arith in
    let fits : SFits w16 c.read_i16.result = search rules in
    let read : c.read_i16.result ≡ sample_of (get_or bytes (2 * i) 0) (get_or bytes (2 * i + 1) 0) =
    c.read_i16.ensures ∙ read-at bytes (2 * i) inside c.type_inv.bytes in
    let pushed : c.push.new.self.items ≡ c.loop-i.samples.items ++ c.read_i16.result ∷ [] =
    simp (to_z-of_z, fits) at c.in_ok-push.ensures.items in
    samples_of-next bytes c.loop-i.samples.items c.push.new.self.items c.read_i16.result i inside c.loop-i.invariant pushed read

pub returns : goal.returns
returns c =
    let bytes = c.args.bytes.now in
    let none = samples_of-short (drop (2 * c.loop-i.i) bytes) (omega (arith, length-drop (2 * c.loop-i.i) bytes)) in
    record { exact = sym (append-nil _) ∙ ap (λ rest. c.loop-i.samples.items ++ rest) (sym none) ∙ c.loop-i.invariant }
