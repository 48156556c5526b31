-- What the refusals of requests come to: want of memory is one refusal, wherever it comes from.
use Rattle.made_routes.specs.declared.error.MadeError.{MadeError}
use Rattle.made_routes.specs.declared.error.MadeError.TheVariants.{Route, NoMemory}
use Rattle.route_ready.specs.declared.error.RouteError.{RouteError}
use Rattle.route_ready.specs.declared.error.RouteError.TheVariants as route_fault

-- the refusal of a request as the refusal over what is made
abbrev pub route_error : RouteError → MadeError
route_error route_fault.NoMemory = NoMemory
route_error error = Route error
