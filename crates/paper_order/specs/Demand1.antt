-- Demand 1 of the order, of any box: each call tests what it is given and answers; a refusal says by its number why, and leaves the state
-- and the buffer as they were. Definitions and the statement only.
use Rattle.std.specs.Prelude.{ℕ, ◌≡◌, List, ◌↔◌}
use Rattle.state_settings.specs.Settings.{Settings}
use Rattle.state_settings.specs.Valid.{Valid}
use Rattle.loss_reading.specs.Reading.{Sessions}
use Rattle.loss_lent.specs.Lent.{Lends}
use Rattle.frame_reader.specs.Numbers.{ReaderNumbers}
use Rattle.stored_settings.specs.SettingsRecord.{SettingsRecords}
use Rattle.stored_line.specs.LineCalls.{LossRecords}
use Rattle.state_view.specs.State.{State}
use Rattle.state_view.specs.WellFormed.{WellFormed}
use Rattle.paper_said.specs.Calls.{Call, new_setting, refused, nothing, leaves, hands_out, OnWire, NoSetting, Box}
use Rattle.paper_said.specs.Started.{Settable, AllZero}
use Rattle.paper_promised.specs.Refusals.{Refusal, handed}
use Rattle.paper_loss.specs.Runs.{Each}
use Rattle.paper_time.specs.Runs.{since}

pub record Demand1 (B : Box) : Type 0 where
  -- every call that is given a state refuses one that is not well formed with 2, and leaves it as it was
  pub not_well : (s : State) (c : Call) → OnWire c → NoSetting c → (WellFormed s → ⊥) → B s c ≡ leaves (refused 2) s (handed c)
  -- each number exactly where its line holds, and no earlier one of the order does
  pub refuses : (s : State) (c : Call) (n : ℕ) → OnWire c → ((B s c).answer ≡ refused n) ↔ Refusal s c n
  -- any refusal, of any call, leaves state and buffer the same
  pub same : (s : State) (c : Call) (n : ℕ) → OnWire c → (B s c).answer ≡ refused n → ((B s c).state ≡ s) × ((B s c).buffer ≡ handed c)
  -- only a new setting returns a state, and a refused one zeros
  pub hands_nothing : (s : State) (c : Call) → OnWire c → NoSetting c → (B s c).out ≡ nothing
  pub zeros : (s : State) (t : Settings) → OnWire (new_setting t) → (Valid t → ⊥)
      → (zero : State) × AllZero zero × (B s (new_setting t) ≡ hands_out (refused 4) s zero)
  -- along every run since a setting that was taken the state stays well formed, so the box never gives itself a 2: a setting that is
  -- refused in mid run leaves a running box
  pub stays : (s : State) (t : Settings) (cs : List Call) → Settable t → Each OnWire cs → WellFormed (since B s t cs)
  pub never_2 : (s : State) (t : Settings) (cs : List Call) (c : Call) → Settable t → Each OnWire cs → OnWire c
      → (B (since B s t cs) c).answer ≡ refused 2 → ⊥

-- demand 1 of the calls that are given no state: settings and loss lines in stored records, the reader of TLVs, the loss session, by
-- value and lent
pub record Beside : Type 0 where
  pub settings : SettingsRecords
  pub lines : LossRecords
  pub reader : ReaderNumbers
  pub session : Sessions
  pub lent : Lends
