-- What a call is depends on the settings alone: two well-formed states with the same settings agree. Assumes nothing.
use mathlib.Core.Path.{◌≡◌, sym, ap, ◌∙◌}
use Rattle.state_settings.specs.Settings.{Settings}
use Rattle.state_view.specs.State.{State}
use Rattle.state_view.specs.WellFormed.{WellFormed}
use Rattle.paper_said.specs.Calls.{ArrivalSide, Arrival, Call}
use Rattle.paper_said.specs.Cases.{Heeded, OwnLevel}
use Rattle.paper_said.specs.Drops.{GoodDestination, own, group, D6, destination, group_source, stranger, Sound}
use Rattle.paper_said.specs.Taken.{LossReply}
use Rattle.paper_loss.specs.Runs.{CountedFrom, Event, Neither, Is, is_reply, is_received, is_sent, is_other}

module _ (s y : State) (a : Arrival) (w : WellFormed y) (e : s.settings ≡ y.settings) where
  heeded-to : Heeded s a → Heeded y a
  heeded-to h = record { well = w; long = h.long; receive = h.receive; transmit = h.transmit }

  pub counted-to : (d : ArrivalSide) → CountedFrom d s a → CountedFrom d y a
  counted-to d c = record { heeded = heeded-to c.heeded; service = c.service; from = c.from }

  own-to : OwnLevel s a → OwnLevel y a
  own-to l = record {
    oam = record { heeded = heeded-to l.oam.heeded; ether = l.oam.ether; head = l.oam.head };
    side = l.side;
    level = l.level ∙ ap (λ (t : Settings). t.level) e;
  }

  destination-to : GoodDestination s a → GoodDestination y a
  destination-to (own x) = own (x ∙ ap (λ (t : Settings). t.own) e)
  destination-to (group o x) = group o x

  sixth_back : D6 y a → D6 s a
  sixth_back (destination n) = destination (λ g. n (destination-to g))
  sixth_back (group_source o x) = group_source o x
  sixth_back (stranger o n) = stranger o (λ x. n (x ∙ ap (λ (t : Settings). t.losspeer) e))

  sound-to : Sound s a → Sound y a
  sound-to q =
      record {
        least = q.least;
        handled = q.handled;
        offset = q.offset;
        tlvs = q.tlvs;
        destination = λ d. q.destination (sixth_back d);
      }

  pub reply-to : LossReply s a → LossReply y a
  reply-to l = record { own = own-to l.own; sound = sound-to l.sound; lmr = l.lmr }

pub neither_to : (s y : State) (a : Arrival) → WellFormed s → WellFormed y → s.settings ≡ y.settings → Neither s a → Neither y a
neither_to s y a v w e n = record {
  reply = λ l. n.reply (reply-to y s a v (sym e) l);
  received = λ c. n.received (counted-to y s a v (sym e) _ c);
  sent = λ c. n.sent (counted-to y s a v (sym e) _ c);
}

pub is-to : (s y : State) (c : Call) (e : Event) → WellFormed s → WellFormed y → s.settings ≡ y.settings → Is s c e → Is y c e
is-to s y c e v w t (is_reply a l) = is_reply a (reply-to s y a w t l)
is-to s y c e v w t (is_received a k) = is_received a (counted-to s y a w t _ k)
is-to s y c e v w t (is_sent a k) = is_sent a (counted-to s y a w t _ k)
is-to s y c e v w t (is_other x n) = is_other x (λ a q. neither_to s y a v w t (n a q))
