-- The statement of specs/Month.antt, by citation of demand 3 and of the sheet's own laws. Assumes nothing.
use Prim.Native.Nat.{ℕ, suc, ◌+◌, ◌-◌, ◌≤◌}
use mathlib.Core.Path.{◌≡◌, refl, sym, ap, ◌∙◌}
use mathlib.Core.List.{List, [], ◌∷◌, ◌++◌, map}
use native.Mathlib.Omega.{arith}
use lib.ListN.{length, length-append, length-map}
use lib.Seq.{append_snoc}
use Rattle.base_clock.specs.Run.{after}
use Rattle.loss_session.specs.declared.Readings.{Readings}
use Rattle.loss_session.specs.declared.LossSession.{LossSession}
use Rattle.loss_reading.specs.declared.Updated.{Updated}
use Rattle.loss_session.specs.Session.{near, far, cleared_session, most_readings}
use Rattle.loss_reading.specs.Reading.{after_reading}
use Rattle.loss_reading.specs.Told.{loss_told, loss_numbers}
use Rattle.loss_reading.proofs.Numbers.{told-numbers}
use Rattle.base_number_text.specs.Decimal.{decimal, digits_of, leading}
use Rattle.stored_line.specs.declared.LossLine.{LossLine}
use Rattle.stored_line.specs.Line.{KeepsRules, line_record}
use Rattle.stored_sheet.specs.Sheet.{header_text, line_text, Prints, nothing_left, good_record, sheet_of, joined}
use Rattle.stored_sheet.proofs.Sheets.{sheets}
use Rattle.loss_account.specs.Account.{newest, total}
use Rattle.loss_account.specs.Demand3.{leaves, Counts, shown, Steady}
use Rattle.loss_account.proofs.Meets.{meets}
use Rattle.loss_account.proofs.Both.{ours}
use Rattle.stored_replies.specs.Replies.{line_of, Worked, stopped, behind, worked}
use Rattle.stored_replies.proofs.Laws.{worked-none, worked-taken, worked-refused}
use Rattle.stored_month.specs.Month.{account_line, account_lines, records_of, texts_of, raw_replies, recounted, quay, quay_sheet, Months}
use Rattle.stored_month.proofs.Raw.{raw_back, shown-small}
use Rattle.stored_month.proofs.AccountLines.{steady_front, reached, well, one_more, line-is, line_kept, takes-more}

-- ── all replies ──

-- what working through some replies gives, where each is taken and leaves the line that the account has
record Goes (w : Worked) (lines : List LossLine) (n : ℕ) : Type 0 where
  records_are : w.records ≡ records_of lines
  goes_through : w.halted ≡ 0
  all_taken : w.taken ≡ n
  printed : Prints (records_of lines) (texts_of lines)

goes : (ts before : List Counts) → length (before ++ ts) ≤ most_readings → Steady (before ++ ts)
    → Goes (worked (reached before) (map shown ts)) (account_lines before ts) (length ts)
unfolding account_lines joined
goes [] before few steady =
    rw (worked-none (reached before)) (record { records_are = refl; goes_through = refl; all_taken = refl; printed = nothing_left })
goes (t ∷ ts) before few steady = by (goes ts (before ++ (t ∷ [])) (rw (append_snoc before t ts) few) (rw (append_snoc before t ts) steady))
  where
    so_far : List Counts
    so_far = before ++ (t ∷ [])

    count : length (before ++ (t ∷ ts)) ≡ length before + suc (length ts)
    count = length-append before (t ∷ ts)

    long : length (before ++ (t ∷ [])) ≡ length before + 1
    long = length-append before (t ∷ [])

    line : line_of (reached (before ++ (t ∷ []))) ≡ account_line (before ++ (t ∷ []))
    line =
        line-is (before ++ (t ∷ [])) (omega (arith, few, count, long))
        (steady_front (before ++ (t ∷ [])) ts (rw (append_snoc before t ts) steady))

    kept : KeepsRules (account_line (before ++ (t ∷ [])))
    kept = rw line at (line_kept (map shown (before ++ (t ∷ []))))

    intervals : (reached before).intervals ≡ length before - 1
    intervals =
        meets.intervals (map shown before) (omega (arith, length-map before shown, few, count))
        ∙ ap (λ (n : ℕ). n - 1) (length-map before shown)

    taken : (loss_numbers (reached before) (shown t)).refusal ≡ 0
    taken = takes-more (reached before) (shown t) (well (map shown before)) (omega (arith, intervals, few, count))

    now_at : worked (reached before) (shown t ∷ map shown ts)
        ≡ behind (line_record (account_line (before ++ (t ∷ [])))) 1 (worked (reached (before ++ (t ∷ []))) (map shown ts))
    now_at =
        worked-taken (reached before) (shown t) (map shown ts) taken
        ∙ ap (λ (s : LossSession). behind (line_record (line_of s)) 1 (worked s (map shown ts))) (one_more before t)
        ∙ ap (λ (l : LossLine). behind (line_record l) 1 (worked (reached (before ++ (t ∷ []))) (map shown ts))) line

    by : Goes (worked (reached (before ++ (t ∷ []))) (map shown ts)) (account_lines (before ++ (t ∷ [])) ts) (length ts)
        → Goes (worked (reached before) (shown t ∷ map shown ts)) (account_line (before ++ (t ∷ [])) ∷ account_lines (before ++ (t ∷ [])) ts)
        (suc (length ts))
    by more =
        let rest = account_lines (before ++ (t ∷ [])) ts in
        let all : Goes (behind (line_record (account_line (before ++ (t ∷ [])))) 1 (worked (reached (before ++ (t ∷ []))) (map shown ts)))
        (account_line (before ++ (t ∷ [])) ∷ rest) (suc (length ts)) =
        record {
          records_are = ap (λ (l : List ℕ). line_record (account_line (before ++ (t ∷ []))) ++ l) more.records_are;
          goes_through = more.goes_through;
          all_taken = omega (arith, more.all_taken);
          printed = good_record (account_line (before ++ (t ∷ []))) (records_of rest) (texts_of rest) kept more.printed;
        } in
        rw now_at all

-- ── the statement ──

module _ (ts : List Counts) (few : length ts ≤ most_readings) (steady : Steady ts) where
  read_back : recounted (raw_replies (map shown ts)) ≡ worked cleared_session (map shown ts)
  read_back = ap (worked cleared_session) (raw_back (map shown ts) (shown-small ts))

  month : Goes (recounted (raw_replies (map shown ts))) (account_lines [] ts) (length ts)
  unfolding after
  month = rw read_back (goes ts [] few steady)

  sheet : sheet_of (recounted (raw_replies (map shown ts))).records ≡ header_text ++ texts_of (account_lines [] ts)
  sheet =
      ap sheet_of month.records_are
      ∙ ap (λ (l : List ℕ). header_text ++ l) (sym (sheets.only (records_of (account_lines [] ts)) (texts_of (account_lines [] ts))
      month.printed))

full : (rs more : List Readings) (r : Readings) → most_readings ≤ length rs
    → worked (leaves after_reading cleared_session rs) (r ∷ more) ≡ stopped 5 (leaves after_reading cleared_session rs)
unfolding loss_told
full rs more r many =
    let s = leaves after_reading cleared_session rs in
    let five : (loss_numbers s r).refusal ≡ 5 = ap (λ n. n.refusal) (sym (told-numbers s r))
    ∙ ap (λ (u : Updated). (loss_told u.answer).refusal) (meets.later rs r many) in
    worked-refused s r more (λ z. omega (arith, five, z)) ∙ ap (λ (n : ℕ). stopped n s) five

-- the grain quay's true counts are what it read
quay-counts : List Counts
quay-counts = record { txf = 100; rxf = 100; txb = 50; ours = 50 } ∷ record { txf = 200; rxf = 200; txb = 60; ours = 61 } ∷ []

quay_steady : Steady quay-counts
unfolding quay-counts
quay_steady near = (record { rises = omega arith; small = omega arith }, record { rises = omega arith; small = omega arith }, tt)
quay_steady far = (record { rises = omega arith; small = omega arith }, record { rises = omega arith; small = omega arith }, tt)

quay-shown : map shown quay-counts ≡ quay
unfolding quay-counts
quay-shown = refl

quay-text : header_text ++ texts_of (account_lines [] quay-counts) ≡ quay_sheet
unfolding quay-counts account_lines joined line_text total newest decimal digits_of leading
quay-text = refl

grain_quay : sheet_of (recounted (raw_replies quay)).records ≡ quay_sheet
unfolding quay-counts
grain_quay =
    ap (λ (rs : List Readings). sheet_of (recounted (raw_replies rs)).records) (sym quay-shown) ∙ sheet quay-counts (omega arith) quay_steady
    ∙ quay-text

pub months : Months
months = record {
  raw_back = raw_back;
  taken = λ ts few steady. ((month ts few steady).goes_through, (month ts few steady).all_taken);
  written = λ ts few steady. (month ts few steady).records_are;
  sheet = sheet;
  full = full;
  grain_quay = grain_quay;
}
