-- The frame rules read nothing of a state but its settings and whether it is well formed: what holds in one state holds in another of the
-- same
-- settings. Assumes nothing.
use Prim.Native.Nat.{ℕ}
use mathlib.Core.Path.{◌≡◌, sym, ap, ◌∙◌}
use Rattle.state_settings.specs.Settings.{Settings}
use Rattle.state_view.specs.State.{State}
use Rattle.state_view.specs.WellFormed.{WellFormed}
use Rattle.paper_said.specs.Calls.{Arrival}
use Rattle.paper_said.specs.Cases.{level, Oam, OwnLevel}
use Rattle.paper_said.specs.Drops.{GoodDestination, own, group, D6, destination, group_source, stranger, Sound, GoodCcm}
use Rattle.paper_said.specs.Taken.{PeerAt, OwnCcm, FromPeer}

-- by the settings alone
module _ {s u : State} (e : s.settings ≡ u.settings) where
  destination_moves : {a : Arrival} → GoodDestination s a → GoodDestination u a
  destination_moves (own p) = own (p ∙ ap (λ (t : Settings). t.own) e)
  destination_moves (group o p) = group o p

  pub peer_moves : {k id : ℕ} → PeerAt s k id → PeerAt u k id
  peer_moves {k} {id} p = record { used = rw (← e) p.used; same = rw (← e) p.same }

d6_moves : {s u : State} → s.settings ≡ u.settings → {a : Arrival} → D6 s a → D6 u a
d6_moves e (destination n) = destination (λ g. n (destination_moves (sym e) g))
d6_moves e (group_source o g) = group_source o g
d6_moves e (stranger o n) = stranger o (λ q. n (q ∙ sym (ap (λ (t : Settings). t.losspeer) e)))

pub sound_moves : {s u : State} → s.settings ≡ u.settings → {a : Arrival} → Sound s a → Sound u a
sound_moves e x =
    record {
      least = x.least;
      handled = x.handled;
      offset = x.offset;
      tlvs = x.tlvs;
      destination = λ d. x.destination (d6_moves (sym e) d);
    }

pub good_moves : {s u : State} → s.settings ≡ u.settings → {a : Arrival} → GoodCcm s a → GoodCcm u a
good_moves e x = record { sound = sound_moves e x.sound; ccm = x.ccm; period = x.period }

-- and where the other is well formed too
module _ {s u : State} (e : s.settings ≡ u.settings) (w : WellFormed u) {a : Arrival} where
  pub oam_moves : Oam s a → Oam u a
  oam_moves x = record {
    heeded = record { well = w; long = x.heeded.long; receive = x.heeded.receive; transmit = x.heeded.transmit };
    ether = x.ether;
    head = x.head;
  }

  pub own_moves : OwnLevel s a → OwnLevel u a
  own_moves x = record { oam = oam_moves x.oam; side = x.side; level = x.level ∙ ap (λ (t : Settings). t.level) e }

  pub ccm_moves : OwnCcm s a → OwnCcm u a
  ccm_moves x = record { own = own_moves x.own; good = good_moves e x.good }

  pub from_moves : {k : ℕ} → FromPeer s a k → FromPeer u a k
  from_moves x = record { ccm = ccm_moves x.ccm; meg = x.meg ∙ ap (λ (t : Settings). t.meg) e; peer = peer_moves e x.peer }
