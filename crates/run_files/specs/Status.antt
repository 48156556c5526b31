-- The number of a status and its line. This project's own rule.
use Rattle.std.specs.Prelude.{ℕ, List, [], ◌++◌, codes, decimal}
use Rattle.lookup_table.specs.Lines.{lookup_line}
use Rattle.profile_text.specs.Lines.{text_line}
use Rattle.context_check.specs.Lines.{check_line}
use Rattle.run_files.specs.Lines.{certificate_line, map_line, refuted_line, tile_line}
use Rattle.route_http.specs.Lines.{request_line}
use Rattle.route_ready.specs.declared.error.RouteError.{RouteError}
use Rattle.route_ready.specs.declared.error.RouteError.TheVariants as route
use Rattle.run_files.specs.declared.status.Status.{Status}
use Rattle.run_files.specs.declared.status.Status.TheVariants.{Done, Usage, Query, TooLong, Lookup, Text, Check, Map, Tile, Certificate, Route, Refuted, NotFound, ReadFault, WriteFault, TurnsSpent, HubFault, NoMemory}

-- the exit status of a request that has no track
abbrev pub number_of_route : RouteError → ℕ
number_of_route route.UnknownProfile = 2
number_of_route (route.Check error) = 2
number_of_route (route.Rate error) = 2
number_of_route (route.NoTrack leg) = 3
number_of_route (route.NotMapped waypoint) = 4
number_of_route (route.Budget leg alternative) = 5
number_of_route (route.GlobalFault variable kind) = 6
number_of_route (route.Bind error) = 6
number_of_route route.NoMemory = 10

-- the exit status of the program
abbrev pub number_of_status : Status → ℕ
number_of_status Done = 0
number_of_status (Usage word) = 1
number_of_status (Query error) = 1
number_of_status (TooLong word) = 2
number_of_status (Lookup word error) = 2
number_of_status (Text word error) = 2
number_of_status (Check word error) = 2
number_of_status (Map word error) = 2
number_of_status (Tile word error) = 2
number_of_status (Certificate word error) = 2
number_of_status (Route error line) = number_of_route error
number_of_status (NotFound word) = 7
number_of_status (ReadFault word) = 8
number_of_status WriteFault = 9
number_of_status NoMemory = 10
number_of_status TurnsSpent = 11
number_of_status HubFault = 12
number_of_status (Refuted leg why) = 13

-- the front of the line of a refused file, which names its word
abbrev pub word_front : ℕ → List ℕ
word_front word = codes "word " ++ (decimal word ++ codes ": ")

-- the line that names a status, without its end; that of success is empty
abbrev pub line_of : Status → List ℕ
line_of Done = []
line_of (Usage word) = codes "usage: word " ++ decimal word
line_of (Query error) = request_line error
line_of (TooLong word) = word_front word ++ codes "file too long"
line_of (Lookup word error) = word_front word ++ lookup_line error
line_of (Text word error) = word_front word ++ text_line error
line_of (Check word error) = word_front word ++ check_line error
line_of (Map word error) = word_front word ++ map_line error
line_of (Tile word error) = word_front word ++ tile_line error
line_of (Certificate word error) = word_front word ++ certificate_line error
line_of (Route error line) = line
line_of (Refuted leg why) = refuted_line leg why
line_of (NotFound word) = word_front word ++ codes "not found"
line_of (ReadFault word) = word_front word ++ codes "read fault"
line_of WriteFault = codes "write fault"
line_of TurnsSpent = codes "turns spent"
line_of HubFault = codes "hub fault"
line_of NoMemory = codes "out of memory"
