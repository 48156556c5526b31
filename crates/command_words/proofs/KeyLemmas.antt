-- Keys that the test of keys calls one.
use denote.Enum.Bare.{same_true}
use Rattle.std.proofs.Common.{◌≡◌, true}
use Rattle.command_words.specs.Reader.{same_key}
use Rattle.command_words.specs.contracts.rows.Key.{the_type}
use Rattle.command_words.specs.declared.rows.Key.{Key}

-- two keys that the test calls one are one
pub key-is : (key wanted : Key) → same_key key wanted ≡ true → key ≡ wanted
key-is key wanted is = same_true the_type tt key wanted is
