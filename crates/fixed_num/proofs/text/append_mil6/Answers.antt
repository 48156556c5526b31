use Rattle.std.proofs.Common.{◌+◌, ◌-◌, ◌≤◌, ◌≡◌, length, ap, arith}
use Rattle.std.proofs.lemmas.Slice.{drop-put_mid}
use Rattle.fixed_num.proofs.text.append_mil6.Goals as goal

pub returns-clause-kept : goal.returns-clause-kept
returns-clause-kept c =
    let bytes = c.as_slice-bytes.result.now in
    let few : length bytes ≤ 47 = omega (arith, ap length c.as_slice-bytes.ensures.value, c.of-text.ensures.fits) in
    let same : length c.copy_from_slice.new.self ≡ c.args.at + length bytes - c.args.at =
    omega (arith, ap length c.copy_from_slice.ensures.after) in
    drop-put_mid c.args.at (c.args.at + length bytes - c.args.at) c.args.out.now c.copy_from_slice.new.self (c.args.at + length bytes)
    (omega arith) (omega arith) same
