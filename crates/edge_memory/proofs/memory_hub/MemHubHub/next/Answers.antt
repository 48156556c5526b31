-- When the next event of a hub in memory fails.
use Rattle.std.proofs.Common.{rules, refl}
use Rattle.edge_memory.specs.MemoryHub.{FailsNext}
use Rattle.edge_memory.proofs.memory_hub.MemHubHub.next.Goals as goal
use Rattle.edge_memory.proofs.memory_hub.MemHubHub.next.Goals.{then-spare-eq0-via-then-spare-eq0, then-spare-eq0-via-else-spare-eq0+then-contains}

pub returns-then-spare-eq0-clause-refused : goal.returns-then-spare-eq0-clause-refused
returns-then-spare-eq0-clause-refused c =
    let fails : FailsNext c.args.self.now =
    elim c.then-spare-eq0.branch [
      | then-spare-eq0-via-then-spare-eq0 w ↦ search rules
      | then-spare-eq0-via-else-spare-eq0+then-contains w ↦ search rules
    ] in
    (λ is. fails, λ f. refl)
