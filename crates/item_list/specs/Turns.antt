-- What the turns of what is done in turns say and count. This project's own rule.
use Rattle.std.specs.Prelude.{ℕ, ◌≡◌, ◌<◌}
use Rattle.item_list.specs.declared.turn.Turn.{Turn}
use Rattle.item_list.specs.declared.turn.Turn.TheVariants.{More, Done}

-- what a turn says: the one of what it goes on by, the other of its end
abbrev pub Says : {N E : Type 0} → (N → Type 0) → (E → Type 0) → Turn N E → Type 0
Says more done (More next) = more next
Says more done (Done end) = done end

-- how far a turn counts that is given a quota: as far where it goes on, and less far where it is at its end
abbrev pub Settles : {N E : Type 0} → (quota count : ℕ) → Turn N E → Type 0
Settles quota count (More next) = count ≡ quota
Settles quota count (Done end) = count < quota
