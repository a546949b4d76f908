-- Each allowed effect keeps the invariant of a rack, and lets its board grow.
use Rattle.std.specs.Prelude.{ℕ, Bool, ◌≡◌}
use Rattle.std.proofs.Common.{le_refl}
use Rattle.safety.specs.Types.{Numbers, Notices}
use Rattle.safety.specs.Types.{Unsent, Tag, Effect, Refuse, Hold, Send, Close, Seek, Receive, Halt}
use Rattle.model.specs.Rack.{Rack, apply}
use Rattle.safety.specs.Invariant.{Closes}
use Rattle.safety.specs.Invariant.{Invariant, Allowed, hears_sent, unnoticed}
use Rattle.safety.specs.Kept.{aside, change_kept, closer, hold_kept, message_kept, receiver, seeker, sent_kept}

module _ (N : Numbers) where
  module _ (r : Rack) (inv : Invariant N r) where
    -- by a close, which sends its notice
    module _ (c x : ℕ) (why : Closes N r.sent (r.at c).closed x) where
      abbrev silent : r.sent Notices (r.at c).closed 0 c ≡ Unsent
      silent = unnoticed N r inv c (r.at c).closed 0 (le_refl _)

      close_kept : (own : Bool) → Invariant N (apply c (Close x own) r)
      unfolding apply
      close_kept own = message_kept N r inv c Notices 0 (Tag x) silent _ tt (closer N r inv c x why own)

    -- ---- every effect

    pub kept : (c : ℕ) (e : Effect) → Allowed N r c e → Invariant N (apply c e r)
    unfolding apply
    kept c (Refuse why) ok = inv
    kept c (Hold x) ok = hold_kept N r inv c x
    kept c (Send so p w) ok = sent_kept N r inv c so p w ok
    kept c (Close x own) ok = close_kept c x ok own
    kept c Seek ok = change_kept N r inv c _ (seeker N r inv c ok.0 ok.1)
    kept c (Receive so s p d w) ok = change_kept N r inv c _ (receiver N r inv c so s p d w (hears_sent N r c so s p d w ok))
    kept c Halt ok = change_kept N r inv c _ (aside N _ _ (inv.replica c))
