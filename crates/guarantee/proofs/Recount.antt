-- What is said of a window value speaks of its set-up numbers alone: it holds with any other counts. As `recount (recount w a u)` with
-- w's own counts is w, each of these goes both ways.
use Rattle.std.specs.Prelude.{List, ℕ}
use Rattle.window.specs.declared.Window.{Window}
use Rattle.window.specs.Store.{Store}
use Rattle.calls.specs.State.{recount}
use Rattle.guarantee.specs.Demand3.{Port, mediaPort, columnPort, rowPort, Offer, Stretch, Fills, UnalteredParity, UnalteredOn, Unaltered}
use Rattle.guarantee.specs.Start.{Holds}

module _ (w : Window) (a u : ℕ) (t : Stretch) where
  -- that a stretch fills it
  pub fills-on : Fills w t → Fills (recount w a u) t
  fills-on F = record { timestamp-fits = F.timestamp-fits; size = F.size; bytes = F.bytes }

  -- that a store holds what is unaltered
  pub holds_on : {s : Store} → Holds w t s → Holds (recount w a u) t s
  holds_on H = record { media = H.media; parity = H.parity }

  -- that a parity packet is unaltered
  parity-on : {stream : ℕ} {g : List ℕ} → UnalteredParity w t stream g → UnalteredParity (recount w a u) t stream g
  parity-on h = record {
    snbase = h.snbase;
    outer = h.outer;
    snbase-fits = h.snbase-fits;
    sequence-fits = h.sequence-fits;
    timestamp-fits = h.timestamp-fits;
    ssrc-fits = h.ssrc-fits;
    permitted = h.permitted;
    in_window = h.in_window;
    is = h.is;
  }

  -- that a datagram on a port is
  unaltered-port : (p : Port) (g : List ℕ) → UnalteredOn w t p g → UnalteredOn (recount w a u) t p g
  unaltered-port mediaPort g h = record { place = h.place; ssrc = h.ssrc; in_window = h.in_window; ssrc-fits = h.ssrc-fits; is = h.is }
  unaltered-port columnPort g h = parity-on h
  unaltered-port rowPort g h = parity-on h

  -- that an offer is
  pub unaltered-on : (o : Offer) → Unaltered w t o → Unaltered (recount w a u) t o
  unaltered-on o h = unaltered-port o.port o.datagram h
