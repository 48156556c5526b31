-- The numbers of a command that was read are within their limits, its places in its grid, its profiles have names of their
-- own, and where it listens is an address.
use Rattle.std.proofs.Common.{◌≡◌, ◌==◌, ℕ, ◌<◌, ◌≤◌, ◌+◌, inl, inr, true, Option, Some, None, option_map, Result, Ok, Err, MatchResult, IfOk, List, [], length, refl, arith, subst}
use Rattle.std.proofs.lemmas.Bool.Decides.{nat_tests}
use Rattle.command_words.specs.Addresses.{SpellsAddress, is_address}
use Rattle.command_words.specs.Given.{Given, Named}
use Rattle.command_words.specs.Rows.{keys_of, most_hierarchies, most_labels, most_turns}
use Rattle.command_words.specs.Value.{number_in, place_in, product_in}
use Rattle.command_words.specs.Reader.{entry_with, entries_after, entries_of}
use Rattle.command_words.specs.Command.{lies_in, files_with, sizes_with, sizes_in, grid_by, grid_over, grid_with, hills_with, complete, command_with, code_with, make_with, file_in, files_in, check_by, within_by, ride_in, ride_over, serve_with, number_or}
use Rattle.command_words.proofs.AddressLemmas.{address-spelled}
use Rattle.command_words.proofs.EntryLemmas.{AllFit, split, err-not_ok, after-fit, whole-read, with-fit}
use Rattle.command_words.proofs.ServeLemmas.{after-once, profiles-fit}
use Rattle.command_words.specs.Fit.{IsFit, IsSized, AreProfileFiles, AreOnceAfter, most_cost}
use Rattle.command_words.specs.Refusals.{OnUsage}
use Rattle.command_words.specs.declared.reader.Refusal.{Refusal}
use Rattle.command_words.specs.declared.command.Command.{Command}
use Rattle.command_words.specs.declared.command.Command as Form
use Rattle.command_words.specs.declared.command.CodeCommand.{CodeCommand}
use Rattle.command_words.specs.declared.command.GridCommand.{GridCommand}
use Rattle.command_words.specs.declared.command.HillsCommand.{HillsCommand}
use Rattle.command_words.specs.declared.command.MakeCommand.{MakeCommand}
use Rattle.command_words.specs.declared.command.RouteCommand.{RouteCommand}
use Rattle.command_words.specs.declared.command.CertifyCommand.{CertifyCommand}
use Rattle.command_words.specs.declared.command.CheckCommand.{CheckCommand}
use Rattle.command_words.specs.declared.command.ServeCommand.{ServeCommand}
use Rattle.command_words.specs.declared.command.WithinCommand.{WithinCommand}
use Rattle.command_words.specs.declared.completing.Sizes.{Sizes}
use Rattle.command_words.specs.declared.rows.CommandName.{CommandName}
use Rattle.command_words.specs.declared.rows.CommandName.TheVariants as Name
use Rattle.command_words.specs.declared.rows.Key.TheVariants.{Seed, Width, Height, From, To, What, Lookups, Profile, Map, Tile, Listen, Turns, Hangup, Labels, Hierarchies, Certificate, Cost, Bound, Notes}
use Rattle.command_words.specs.declared.value.Place.{Place}

in_grid : (w h : ℕ) (place : Place) → lies_in w h place ≡ true → (place.x < w) × (place.y < h)
in_grid w h place e = (grind (arith, nat_tests), grind (arith, nat_tests))

grid_by-fit : (sizes : Sizes) (from to : Given) (files : Option CodeCommand) (command : Command) →
    IsSized sizes.seed sizes.w sizes.h → grid_by sizes from to files ≡ Ok command → IsFit command
grid_by-fit sizes from to files command sized e =
    elim (split (lies_in sizes.w sizes.h (place_in from.value)) _ (Err from.word) (Ok command) e) [
      | inr (out, f) ↦ cc
      | inl (inside_from, f) ↦
          elim (split (lies_in sizes.w sizes.h (place_in to.value)) _ (Err to.word) (Ok command) f) [
            | inr (out, f') ↦ cc
            | inl (inside_to, f') ↦
                let made : GridCommand = record {
                  from = place_in from.value;
                  to = place_in to.value;
                  seed = sizes.seed;
                  w = sizes.w;
                  h = sizes.h;
                  files =
                      files;
                } in
                let same : Form.TheVariants.Grid made ≡ command = cc in
                let a = in_grid sizes.w sizes.h (place_in from.value) inside_from in
                let b = in_grid sizes.w sizes.h (place_in to.value) inside_to in
                subst IsFit same (record { sized = sized; from_x = a.0; from_y = a.1; to_x = b.0; to_y = b.1 })
          ]
    ]

-- a command whose files may be wanting
grid_over-fit : (sizes : Sizes) (from to : Given) (files : Result (Option CodeCommand) ℕ) (command : Command) →
    IsSized sizes.seed sizes.w sizes.h → grid_over sizes from to files ≡ Ok command → IsFit command
grid_over-fit sizes from to (Ok files) command sized e = grid_by-fit sizes from to files command sized e
grid_over-fit sizes from to (Err word) command sized e = absurd (err-not_ok word command e)

-- the sizes that are read are within their limits
abbrev AreSized : Option Sizes → Type 0
AreSized None = Unit {0}
AreSized (Some sizes) = IsSized sizes.seed sizes.w sizes.h

sizes_with-fit : (seed w h : Option Given) →
    ((e : Given) → seed ≡ Some e → number_in e.value ≤ 65535) →
    ((e : Given) → w ≡ Some e → (1 ≤ number_in e.value) × (number_in e.value ≤ 1000)) →
    ((e : Given) → h ≡ Some e → (1 ≤ number_in e.value) × (number_in e.value ≤ 1000)) →
    AreSized (sizes_with seed w h)
sizes_with-fit (Some seed) (Some w) (Some h) a b c =
    let wide = b w refl in
    let high = c h refl in
    record { seeds = a seed refl; some_width = wide.0; width = wide.1; some_height = high.0; height = high.1 }
sizes_with-fit None w h a b c = tt
sizes_with-fit (Some seed) None h a b c = tt
sizes_with-fit (Some seed) (Some w) None a b c = tt

grid_with-fit : (after : ℕ) (sizes : Option Sizes) (from to : Option Given) (files : Result (Option CodeCommand) ℕ) (command : Command) →
    AreSized sizes → grid_with after sizes from to files ≡ Ok command → IsFit command
grid_with-fit after (Some sizes) (Some from) (Some to) files command sized e = grid_over-fit sizes from to files command sized e
grid_with-fit after None from to files command sized e = absurd (err-not_ok after command e)
grid_with-fit after (Some sizes) None to files command sized e = absurd (err-not_ok after command e)
grid_with-fit after (Some sizes) (Some from) None files command sized e = absurd (err-not_ok after command e)

-- what is made is made of a grid within its limits
make_with-fit : (after : ℕ) (sizes : Option Sizes) (what : Option Given) (command : Command) → AreSized sizes →
    make_with after sizes what ≡ Ok command → IsFit command
make_with-fit after (Some sizes) (Some what) command sized e =
    let made : MakeCommand = record { seed = sizes.seed; w = sizes.w; h = sizes.h; what = product_in what.value } in
    let same : Form.TheVariants.Make made ≡ command = cc in
    subst IsFit same sized
make_with-fit after None what command sized e = absurd (err-not_ok after command e)
make_with-fit after (Some sizes) None command sized e = absurd (err-not_ok after command e)

code_with-fit : (after : ℕ) (lookups profile : Option Given) (command : Command) → code_with after lookups profile ≡ Ok command →
    IsFit command
code_with-fit after (Some lookups) (Some profile) command e =
    let made : CodeCommand = record { lookups = file_in lookups; profile = file_in profile } in
    let same : Form.TheVariants.Code made ≡ command = cc in
    subst IsFit same tt
code_with-fit after None profile command e = absurd (err-not_ok after command e)
code_with-fit after (Some lookups) None command e = absurd (err-not_ok after command e)

check_by-fit : (after : ℕ) (route : RouteCommand) (certificate : Option Given) (command : Command) →
    check_by after route certificate ≡ Ok command → IsFit command
check_by-fit after route (Some certificate) command e =
    let made : CheckCommand = record { route = route; certificate = file_in certificate } in
    let same : Form.TheVariants.Check made ≡ command = cc in
    subst IsFit same tt
check_by-fit after route None command e = absurd (err-not_ok after command e)

-- a cost that is told is within its limit
within_by-fit : (after : ℕ) (route : RouteCommand) (cost : Option Given) (command : Command) →
    ((e : Given) → cost ≡ Some e → number_in e.value ≤ most_cost) → within_by after route cost ≡ Ok command → IsFit command
within_by-fit after route (Some cost) command fit e =
    let made : WithinCommand = record { route = route; cost = number_in cost.value } in
    let same : Form.TheVariants.Within made ≡ command = cc in
    subst IsFit same (fit cost refl)
within_by-fit after route None command fit e = absurd (err-not_ok after command e)

-- a command for a query has nothing that could be unfit but a cost
route-fit : (after : ℕ) (route : Option RouteCommand) (entries : List Given) (command : Command) →
    ride_over after Name.Route route entries ≡ Ok command → IsFit command
route-fit after (Some route) entries command e =
    let same : Form.TheVariants.Route route ≡ command = cc in
    subst IsFit same tt
route-fit after None entries command e = absurd (err-not_ok after command e)

certify-fit : (after : ℕ) (route : Option RouteCommand) (entries : List Given) (command : Command) →
    ride_over after Name.Certify route entries ≡ Ok command → IsFit command
certify-fit after (Some route) entries command e =
    let made : CertifyCommand = record { route = route; bound = number_or (entry_with Bound entries) 0 == 1 } in
    let same : Form.TheVariants.Certify made ≡ command = cc in
    subst IsFit same tt
certify-fit after None entries command e = absurd (err-not_ok after command e)

check-fit : (after : ℕ) (route : Option RouteCommand) (entries : List Given) (command : Command) →
    ride_over after Name.Check route entries ≡ Ok command → IsFit command
check-fit after (Some route) entries command e = check_by-fit after route (entry_with Certificate entries) command e
check-fit after None entries command e = absurd (err-not_ok after command e)

table-fit : (after : ℕ) (route : Option RouteCommand) (entries : List Given) (command : Command) →
    ride_over after Name.Table route entries ≡ Ok command → IsFit command
table-fit after (Some route) entries command e =
    let same : Form.TheVariants.Table route ≡ command = cc in
    subst IsFit same tt
table-fit after None entries command e = absurd (err-not_ok after command e)

within-fit : (after : ℕ) (route : Option RouteCommand) (entries : List Given) (command : Command) →
    ((e : Given) → entry_with Cost entries ≡ Some e → number_in e.value ≤ most_cost) →
    ride_over after Name.Within route entries ≡ Ok command → IsFit command
within-fit after (Some route) entries command fit e = within_by-fit after route (entry_with Cost entries) command fit e
within-fit after None entries command fit e = absurd (err-not_ok after command e)

-- a number that may be missing is within its limits, where the greatest stands for a missing one
number_or-fit : (entry : Option Given) (most : ℕ) → 1 ≤ most →
    ((e : Given) → entry ≡ Some e → (1 ≤ number_in e.value) × (number_in e.value ≤ most)) →
    (1 ≤ number_or entry most) × (number_or entry most ≤ most)
unfolding number_or
number_or-fit None most some fit = (some, omega arith)
number_or-fit (Some entry) most some fit = fit entry refl

number_or-most : (entry : Option Given) (most : ℕ) → ((e : Given) → entry ≡ Some e → number_in e.value ≤ most) →
    number_or entry most ≤ most
unfolding number_or
number_or-most None most fit = omega arith
number_or-most (Some entry) most fit = fit entry refl

-- a hilly grid is within its limits
hills_with-fit : (after : ℕ) (sizes : Option Sizes) (command : Command) → AreSized sizes →
    hills_with after sizes ≡ Ok command → IsFit command
hills_with-fit after (Some sizes) command sized e =
    let made : HillsCommand = record { seed = sizes.seed; w = sizes.w; h = sizes.h } in
    let same : Form.TheVariants.Hills made ≡ command = cc in
    subst IsFit same sized
hills_with-fit after None command sized e = absurd (err-not_ok after command e)

-- where a server listens is an address
listen-fit : (listen : Option Given) → ((e : Given) → listen ≡ Some e → is_address e.text ≡ true) → (word : Named) →
    option_map file_in listen ≡ Some word → SpellsAddress word.name
listen-fit None fit word is = absurd (cc)
listen-fit (Some entry) fit word is =
    let same : file_in entry ≡ word = cc in
    subst (λ (w : Named). SpellsAddress w.name) same (address-spelled entry.text (fit entry refl))

-- a server takes as many events as may be, a search of it settles as many labels, its profiles have names of their own, and
-- where it listens is an address
serve_with-fit : (after : ℕ) (lookups roads : Option Given) (profiles tiles : List Named) (listen turns hangup labels hierarchies notes : Option Given)
    (command : Command) →
    AreProfileFiles profiles → AreOnceAfter [] profiles →
    ((e : Given) → listen ≡ Some e → is_address e.text ≡ true) →
    ((e : Given) → turns ≡ Some e → (1 ≤ number_in e.value) × (number_in e.value ≤ most_turns)) →
    ((e : Given) → labels ≡ Some e → (1 ≤ number_in e.value) × (number_in e.value ≤ most_labels)) →
    ((e : Given) → hierarchies ≡ Some e → number_in e.value ≤ most_hierarchies) →
    serve_with after lookups roads profiles tiles listen turns hangup labels hierarchies notes ≡ Ok command → IsFit command
serve_with-fit after (Some lookups) (Some roads) profiles tiles listen turns hangup labels hierarchies notes command named once where_to a b c e =
    let made : ServeCommand = record {
      lookups = file_in lookups;
      map = file_in roads;
      profiles = profiles;
      tiles = tiles;
      listen = option_map file_in listen;
      turns = number_or turns most_turns;
      hangup = number_or hangup 0 == 1;
      labels = number_or labels most_labels;
      hierarchies = number_or hierarchies most_hierarchies;
      notes = number_or notes 1 == 1;
    } in
    let same : Form.TheVariants.Serve made ≡ command = cc in
    let limits = number_or-fit turns most_turns (omega arith) a in
    let settled = number_or-fit labels most_labels (omega arith) b in
    subst IsFit same (record {
      some_turns = limits.0;
      turns = limits.1;
      some_labels = settled.0;
      labels = settled.1;
      hierarchies = number_or-most hierarchies most_hierarchies c;
      named = named;
      once = once;
      listens = listen-fit listen where_to;
    })
serve_with-fit after None roads profiles tiles listen turns hangup labels hierarchies notes command named once where_to a b c e =
    absurd (err-not_ok after command e)
serve_with-fit after (Some lookups) None profiles tiles listen turns hangup labels hierarchies notes command named once where_to a b c e =
    absurd (err-not_ok after command e)

complete-fit : (name : CommandName) (entries : List Given) (after : ℕ) (command : Command) → AllFit (keys_of name) entries →
    AreOnceAfter [] (files_in Profile entries) → complete name entries after ≡ Ok command → IsFit command
unfolding complete keys_of
complete-fit Name.Grid entries after command all once e =
    grid_with-fit after (sizes_in entries) (entry_with From entries) (entry_with To entries)
    (files_with after (entry_with Lookups entries) (entry_with Profile entries)) command
    (sizes_with-fit (entry_with Seed entries) (entry_with Width entries) (entry_with Height entries)
    (λ x is. (with-fit (keys_of Name.Grid) Seed entries x all is).1) (λ x is. with-fit (keys_of Name.Grid) Width entries x all is)
    (λ x is. with-fit (keys_of Name.Grid) Height entries x all is)) e
complete-fit Name.Make entries after command all once e =
    make_with-fit after (sizes_in entries) (entry_with What entries) command
    (sizes_with-fit (entry_with Seed entries) (entry_with Width entries) (entry_with Height entries)
    (λ x is. (with-fit (keys_of Name.Make) Seed entries x all is).1) (λ x is. with-fit (keys_of Name.Make) Width entries x all is)
    (λ x is. with-fit (keys_of Name.Make) Height entries x all is)) e
complete-fit Name.Hills entries after command all once e =
    hills_with-fit after (sizes_in entries) command
    (sizes_with-fit (entry_with Seed entries) (entry_with Width entries) (entry_with Height entries)
    (λ x is. (with-fit (keys_of Name.Hills) Seed entries x all is).1) (λ x is. with-fit (keys_of Name.Hills) Width entries x all is)
    (λ x is. with-fit (keys_of Name.Hills) Height entries x all is)) e
complete-fit Name.Code entries after command all once e =
    code_with-fit after (entry_with Lookups entries) (entry_with Profile entries) command e
complete-fit Name.Route entries after command all once e = route-fit after (ride_in entries) entries command e
complete-fit Name.Certify entries after command all once e = certify-fit after (ride_in entries) entries command e
complete-fit Name.Check entries after command all once e = check-fit after (ride_in entries) entries command e
complete-fit Name.Table entries after command all once e = table-fit after (ride_in entries) entries command e
complete-fit Name.Within entries after command all once e =
    within-fit after (ride_in entries) entries command
    (λ x is. with-fit (keys_of Name.Within) Cost entries x all is) e
complete-fit Name.Serve entries after command all once e =
    serve_with-fit after (entry_with Lookups entries) (entry_with Map entries) (files_in Profile entries) (files_in Tile entries)
    (entry_with Listen entries) (entry_with Turns entries) (entry_with Hangup entries) (entry_with Labels entries)
    (entry_with Hierarchies entries) (entry_with Notes entries) command
    (profiles-fit (keys_of Name.Serve) entries (λ text x fit. fit) all) once
    (λ x is. with-fit (keys_of Name.Serve) Listen entries x all is) (λ x is. with-fit (keys_of Name.Serve) Turns entries x all is)
    (λ x is. with-fit (keys_of Name.Serve) Labels entries x all is)
    (λ x is. (with-fit (keys_of Name.Serve) Hierarchies entries x all is).1) e

with_words-fit : (name : CommandName) (texts : List (List ℕ)) (command : Command) → command_with name texts ≡ Ok command → IsFit command
with_words-fit name texts command e =
    elim (entries_of (keys_of name) texts) as
    (λ r. entries_of (keys_of name) texts ≡ r →
    elim r [ Err word ↦ Err word | Ok entries ↦ complete name entries (length texts + 1) ] ≡ Ok command → IsFit command) [
      | Err word ↦ λ is f. absurd (err-not_ok word command f)
      | Ok entries ↦ λ is f.
          let read = whole-read (keys_of name) (length texts + 1) (entries_after (keys_of name) [] texts) entries is in
          complete-fit name entries (length texts + 1) command
          (after-fit (keys_of name) texts entries read) (after-once (keys_of name) texts entries read) f
    ] refl e

-- what is read of the words after a command's name fits
pub read-is_fit :
    (name : CommandName) (texts : List (List ℕ)) (r : Result Command Refusal) →
    MatchResult r (λ command. command_with name texts ≡ Ok command)
    (λ refusal. OnUsage refusal (λ word. command_with name texts ≡ Err word)) → IfOk r IsFit
read-is_fit name texts (Ok command) is = with_words-fit name texts command is
read-is_fit name texts (Err refusal) is = tt
