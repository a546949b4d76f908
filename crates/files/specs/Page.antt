-- A lent buffer that is written from its front: what does not fit is left out.
use Rattle.std.specs.Prelude.{ℕ, ◌+◌, List, [], ◌∷◌, ◌≡◌, ltb, length, set as store_at}
use Rattle.model.specs.Tests.{if}
use Rattle.files.specs.declared.Report.{Report}

-- the buffer's bytes, and how many of them are written
pub record Page : Type 0 where
  pub bytes : List ℕ
  pub at : ℕ

abbrev pub page : List ℕ → ℕ → Page
page bytes at = record { bytes = bytes; at = at }

-- what stands in a report
abbrev pub shown : Report → Page
shown r = page r.bytes.now r.written

unfoldable pub put_byte : Page → ℕ → Page
put_byte p b = if (ltb p.at (length p.bytes)) (page (store_at p.bytes p.at b) (p.at + 1)) p

unfoldable pub print : Page → List ℕ → Page
print p [] = p
print p (b ∷ rest) = print (put_byte p b) rest

-- it is the same buffer still, whatever is written into it now
abbrev pub SameReport : Report → Report → Type 0
SameReport r q = q.bytes.ghost_name ≡ r.bytes.ghost_name
