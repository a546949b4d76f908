-- What the rules ask behind the first refusals, and what each comes to for the replica that the memories stand for.
use Prim.Native.Nat.{ℕ, ◌≤◌, ◌<◌}
use mathlib.Core.Bool.{false}
use mathlib.Core.List.{List}
use mathlib.Core.Option.{Option, some as just, none}
use mathlib.Core.Path.{◌≡◌, refl, ◌∙◌, ap}
use lib.ListN.{length, take}
use native.Mathlib.Omega.{arith}
use Rattle.model.specs.declared.Numbers.{Numbers}
use Rattle.model.specs.declared.Round.{Round}
use Rattle.model.specs.declared.Round.TheVariants.{Idle}
use Rattle.model.specs.declared.Sort.{Sort}
use Rattle.model.specs.declared.Effect.{Effect}
use Rattle.model.specs.declared.Message.{Message}
use Rattle.model.specs.declared.Act.{Act}
use Rattle.model.specs.declared.Act.TheVariants.{Submit, Relay, Begin, Hear}
use Rattle.tables.specs.declared.Record.{Record}
use Rattle.model.specs.Rack.{round_in, sort_of, Messages}
use Rattle.model.specs.TurnedAway.{settle}
use Rattle.model.specs.Rules.{submit_rule, relay_rule, begin_rule, hear_rule, own_rule}
use Rattle.tables.specs.Layout.{mask_bits, Tables, known_in, record_end, record_at}
use Rattle.tables.specs.View.{guarded, sent_words, inbox_in, replica_at, view}
use Rattle.tables.specs.Checks.{misplaced}
use Rattle.tables.specs.Sound.{record_there, stands, closed_few}
use Rattle.messages.specs.Reach.{Reach, reading}
use Rattle.known.specs.Room.{Acting, as_holder}
use Rattle.acts.specs.Admitted.{Admitted}

-- ---- what the rules ask

module _ {N : Numbers} {c d st : ℕ} {t : Tables} (l : Admitted N c d st t) where
  -- what the first refusals leave known
  pub acting : Acting N c t.words t.orders
  acting = let f = l.fine in
      record { who = l.who; room = record { bounds = f.within; known = f.known; words = f.long.words; orders = f.long.orders } }

  pub reach : Reach N t
  reach = let f = l.fine in record { bounds = f.within; words = f.long.words; orders = f.long.orders; ballots = f.long.ballots }

  module _ {k : Record} (loaded : k ≡ record_at t.words c) where
    pub own_stands : {a : Round} → a ≡ round_in k.round → misplaced N a k.slot k.phase ≡ false
    own_stands e = (λ i. misplaced N (e i) k.slot k.phase) ∙ (λ i. misplaced N (round_in (loaded i).round) (loaded i).slot (loaded i).phase)
        ∙ stands N l.fine l.who

    pub begin_asks : (k.slot ≤ N.slots) × Acting N c t.words t.orders
    begin_asks = (closed_few N k.slot k.phase (round_in k.round) (own_stands refl), acting)

  -- there is a record to load
  pub record_asks : (c < mask_bits) × (record_end c ≤ length t.words)
  record_asks = let few = l.fine.within.few in let here = l.who in (omega arith, record_there N l.fine l.who)

  pub hear_asks : (c < N.n) × (d < N.n) × Reach N t
  hear_asks = (l.who, l.named, reach)

-- ---- what the rules come to

module _ (N : Numbers) (strip : List ℕ) (c : ℕ) (t : Tables) where
  abbrev Rules : Effect → Act → Type 0
  Rules r a = r ≡ settle (own_rule N strip a (view N t) (replica_at N t c))

  abbrev known_tags : List ℕ
  known_tags = take (known_in t.words) t.orders

  -- submit and relay look at the tags alone
  pub submits : {r : Effect} (x : ℕ) → r ≡ settle (submit_rule N.room known_tags (as_holder N c Idle 0 t.words t.orders) x) → Rules r (Submit x)
  unfolding own_rule
  submits x q = q

  pub relays : {r : Effect} (x : ℕ) → r ≡ settle (relay_rule known_tags (as_holder N c Idle 0 t.words t.orders) x) → Rules r (Relay x)
  unfolding own_rule
  relays x q = q

  -- a hear looks at the inbox alone
  pub hears : {r : Effect} (m : Message)
      → r ≡ settle (hear_rule N (guarded N (sent_words N t.words t.orders t.ballots))
      (reading 0 0 (guarded N (inbox_in N t.words t.orders t.ballots c))) m (sort_of m.sort)) → Rules r (Hear m)
  unfolding own_rule hear_rule
  hears m q = q ∙ ap settle (go (sort_of m.sort))
    where
      sent : Messages
      sent = guarded N (sent_words N t.words t.orders t.ballots)

      go : (so : Option Sort) → hear_rule N sent (reading 0 0 (guarded N (inbox_in N t.words t.orders t.ballots c))) m so
          ≡ hear_rule N sent (replica_at N t c) m so
      go none = refl
      go (just so) = refl

  -- begin and advance go by the replica's record, as it was loaded
  module _ {k : Record} {o : Round} (loaded : k ≡ record_at t.words c) (round : o ≡ round_in k.round) where
    pub begins : {r : Effect} → r ≡ settle (begin_rule N.slots known_tags (as_holder N c o k.slot t.words t.orders)) → Rules r Begin
    unfolding own_rule
    begins q = q ∙ (λ i. settle (begin_rule N.slots known_tags (as_holder N c (round i) k.slot t.words t.orders)))
        ∙ (λ i. settle (begin_rule N.slots known_tags (as_holder N c (round_in (loaded i).round) (loaded i).slot t.words t.orders)))
