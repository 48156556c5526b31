-- What the stored profiles of a server stand for. This project's own rule.
use Rattle.std.specs.Prelude.{ℕ, ◌-◌, List, length}
use Rattle.route_ready.specs.Shelves.{shelf_of}
use Rattle.session_answers.specs.Stored.{Stored}
use Rattle.session_answers.specs.declared.profiles.Profiles.{Profiles}

-- the profiles that are stored, the given ones first
abbrev pub stored_of : Profiles → List Stored
stored_of p = shelf_of p.shelf

-- how many were given at the start
abbrev pub given_of : Profiles → ℕ
given_of p = p.given

-- how many uploads are stored
abbrev pub uploads_of : Profiles → ℕ
uploads_of p = length (stored_of p) - given_of p
