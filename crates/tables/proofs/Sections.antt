-- The sections of a memory: two memories that agree on one. A store in another section keeps it; this one law is what the
-- sections' being apart comes to.
use Rattle.std.proofs.Common.{arith}
use Rattle.tables.specs.Types.{Numbers}
use Rattle.tables.specs.Addresses.{proposal_in}
use Rattle.tables.specs.Sections.{InOrder}

-- ---- the sections

module _ (N : Numbers) where
  pub in_order : InOrder N
  in_order = record { records = λ c h. omega arith; holders = λ i h. omega arith; proposals = λ s d. proposal_in N s d }
