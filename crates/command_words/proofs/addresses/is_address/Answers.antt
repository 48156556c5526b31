-- The test of addresses.
use Rattle.std.proofs.Common.{◌∙◌, sym}
use Rattle.command_words.proofs.AddressLemmas.{address-spelled, parsed-is, spelled-is}
use Rattle.command_words.proofs.addresses.is_address.Goals as goal

pub returns : goal.returns
returns c =
    let is = c.is_ok.ensures.value ∙ parsed-is c.args.text.now c.parse_ascii.result c.parse_ascii.ensures in
    record {
      exact = is;
      value = (λ yes. address-spelled c.args.text.now (sym is ∙ yes), λ spells. is ∙ spelled-is c.args.text.now spells);
    }
