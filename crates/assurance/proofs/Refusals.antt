-- A refusal changes nothing, function by function: each refuses by `kept`, or by an answer that leaves what was there.
-- Assumes nothing.
use Prim.Native.Nat.{ℕ, zero, suc, ◌+◌, ◌≤◌}
use mathlib.Core.Path.{◌≡◌, refl, sym, ap, ◌∙◌}
use mathlib.Core.Bool.{Bool, true, false, cond, ◌&&◌, ◌||◌}
use mathlib.Core.List.{List, ◌++◌}
use native.Mathlib.Omega.{arith}
use lib.ListN.{length, drop}
use lib.Dec.{leb, eqb}
use Rattle.std.proofs.lemmas.Option.{none-some}
use Rattle.refusal.specs.Answer.{number_or_0, after, on_verdict, on_ok}
use Rattle.refusal.specs.declared.Refusal.{Refusal}
use Rattle.refusal.proofs.Laws.{keep}
use Rattle.ring.specs.Ring.{judge_ring, judge_relocation}
use Rattle.wire.specs.Wire.{put_at}
use Rattle.queue.specs.Element.{payload_at}
use Rattle.queue.specs.Peek.{judge_peek, peeked_output}
use Rattle.queue.specs.Iter.{start_of, judge_step, stepped_output, cursor_after, next_of, next_output}
use Rattle.queue.specs.declared.element.Element.{Element}
use Rattle.queue.specs.declared.iter.Iter.{Iter}
use Rattle.queue.specs.declared.iter.Next.{Next}
use Rattle.queue.specs.declared.state.Settings.{Settings}
use Rattle.queue.specs.declared.state.QueueFile.{QueueFile}
use Rattle.queue.specs.declared.iter.Cursor.{Cursor}
use Rattle.writing.specs.Work.{Work, done, kept}
use Rattle.writing.specs.Commit.{judge_numbers, judge_commit, committed, commit_of}
use Rattle.writing.specs.Growth.{check_growth}
use Rattle.writing.specs.Expansion.{grown, judge_expansion, expand_of}
use Rattle.writing.specs.Adding.{appended, judge_add, add_of}
use Rattle.writing.specs.Removal.{skip_from, dropped, removed_zeroed, remove_to, remove_some, remove_of}
use Rattle.writing.specs.Clearing.{cleared, clear_of}
use Rattle.writing.specs.Fresh.{fresh_of}
use Rattle.writing.proofs.Choices.{either}
use Rattle.exports.specs.Runs.{Run, on_opened, opened, on_changed, run_from, run_of, on_peeked, output_peeked, peeks_from, on_stepped, output_stepped, steps_from}
use Rattle.script.specs.Hex.{is_dash, is_hex, unhex, bytes_of}
use Rattle.assurance.specs.Refusals.{next_refused, RefusalsChangeNothing}
use Rattle.std.specs.Prelude.{Result, Ok, Err, Option, Some, None}
use Rattle.queue.specs.declared.iter.Step.{Step}

-- ---- what changes a queue

-- an answer that leaves the image as it was, if it refuses
abbrev Kept : List ℕ → Result QueueFile Refusal × List ℕ → Type 0
Kept img a = (img' : List ℕ) (r : Refusal) → a ≡ (Err r, img') → img' ≡ img

kept_keeps : (img : List ℕ) (r : Refusal) → Kept img (kept img r)
kept_keeps img r img' r' e = sym (ap (λ (a : Result QueueFile Refusal × List ℕ). a.1) e)

-- what is done is not refused
done_keeps : (img : List ℕ) (w : Work) → Kept img (done w)
done_keeps img w img' r e = absurd (clash (ap (λ (a : Result QueueFile Refusal × List ℕ). a.0) e))
  where
    clash : Ok w.0 ≡ Err r → ⊥
    clash c = let z : ◌≡◌ {A = ℕ} 0 1 = cc in omega arith

-- what goes on from another answer keeps the image if it does where it goes on
on_verdict_lem : (img : List ℕ) (v : Result (Unit {0}) Refusal) (next : Result QueueFile Refusal × List ℕ) → Kept img next → Kept img (on_verdict (kept img) v next)
on_verdict_lem img (Ok tt) next k = k
on_verdict_lem img (Err r) next k = kept_keeps img r

on_count_lem : (img : List ℕ) (c : Result ℕ Refusal) (v : ℕ → Result (Unit {0}) Refusal) (next : ℕ → Work) →
    Kept img (on_ok (kept img) c (λ n. on_verdict (kept img) (v n) (done (next n))))
on_count_lem img (Ok n) v next = on_verdict_lem img (v n) _ (done_keeps img (next n))
on_count_lem img (Err r) v next = kept_keeps img r

on_skipped_lem : (img : List ℕ) (s : Result Element Refusal) (next : Element → Result QueueFile Refusal × List ℕ) → ((e : Element) → Kept img (next e)) →
    Kept img (on_ok (kept img) s next)
on_skipped_lem img (Ok e) next k = k e
on_skipped_lem img (Err r) next k = kept_keeps img r

fresh_keeps : (n : ℕ) (settings : Settings) (img : List ℕ) → Kept img (fresh_of n settings img)
unfolding fresh_of
fresh_keeps n settings img =
    keep (Kept img) _ _ _ (kept_keeps img _) (λ a.
    keep (Kept img) _ _ _ (kept_keeps img _) (λ b.
    keep (Kept img) _ _ _ (kept_keeps img _) (λ c.
    done_keeps img _)))

commit_keeps : (q : QueueFile) (img : List ℕ) → Kept img (commit_of q img)
unfolding commit_of
commit_keeps q img = on_verdict_lem img (judge_commit q (length img)) _ (done_keeps img (committed (q, img)))

add_keeps : (q : QueueFile) (payload img : List ℕ) → Kept img (add_of q payload img)
unfolding add_of
add_keeps q payload img =
    on_count_lem img (judge_add q (length img) (length payload)) (check_growth q img) (λ n. committed (appended payload (grown n (q, img))))

clear_keeps : (q : QueueFile) (img : List ℕ) → Kept img (clear_of q img)
unfolding clear_of
clear_keeps q img = on_verdict_lem img (judge_commit q (length img)) _ (done_keeps img (cleared (q, img)))

some_keeps : (q : QueueFile) (n : ℕ) (img : List ℕ) → Kept img (remove_some q n img)
unfolding remove_some remove_to
some_keeps q n img =
    on_skipped_lem img (skip_from img q.file_len n q.first) (remove_to q n img) (λ e.
    on_verdict_lem img (judge_numbers q 1 0) _
    (done_keeps img (removed_zeroed q.first.pos e.pos (committed (dropped q n e, img)))))

remove_keeps : (q : QueueFile) (n : ℕ) (img : List ℕ) → Kept img (remove_of q n img)
unfolding remove_of
remove_keeps q n img =
    keep (Kept img) _ _ _ (kept_keeps img _) (λ a.
    either (Kept img) (eqb n 0) _ _ (λ b. done_keeps img (q, img))
    (either (Kept img) (eqb q.elem_cnt 0) _ _ (λ b. done_keeps img (q, img))
    (either (Kept img) (leb q.elem_cnt n) _ _ (λ b. clear_keeps q img)
    (some_keeps q n img))))

expand_keeps : (q : QueueFile) (span : ℕ) (img : List ℕ) → Kept img (expand_of q span img)
unfolding expand_of
expand_keeps q span img = on_count_lem img (judge_expansion q (length img) span) (check_growth q img) (λ n. grown n (q, img))

-- ---- a byte string of the script

-- the one answer that is bad keeps the output
spelt : (b : Bool) (n : ℕ) (new out out' : List ℕ) →
    ◌≡◌ {A = Option ℕ × List ℕ} (cond b (Some n, new) (None, out)) (None, out') → out' ≡ out
spelt true n new out out' e = absurd (none-some n (sym (ap (λ (a : Option ℕ × List ℕ). a.0) e)))
spelt false n new out out' e = sym (ap (λ (a : Option ℕ × List ℕ). a.1) e)

bytes_keep : (word out out' : List ℕ) → bytes_of word out ≡ (None, out') → out' ≡ out
unfolding bytes_of
bytes_keep word out out' =
    spelt ((is_dash word || is_hex word) && (leb (length (unhex word)) 262144 && leb (length (unhex word)) (length out)))
    (length (unhex word)) (unhex word ++ drop (length (unhex word)) out) out out'

-- ---- a reader's step

-- what is refused is the answer that the output and the reader come of
next_keeps : (it : Iter) (out : List ℕ) (x : Refusal × Iter) (s : List ℕ) →
    next_refused x ≡ next_of it (length out) → s ≡ next_output it out → s ≡ out
next_keeps it out x s e e' =
    e' ∙ ap (λ (n : Next). stepped_output n.stepped it.image.now it.state.file_len out) (sym e)

reader_stays : (it : Iter) (room : ℕ) (x : Refusal × Iter) → next_refused x ≡ next_of it room → x.1 ≡ it
reader_stays it room x e =
    ap (λ (n : Next). n.iter) e
    ∙ ap (λ (n : Next). record { image = it.image; state = it.state; cursor = cursor_after n.stepped it.cursor }) (sym e)

-- ---- a verdict's number

numbered : (v : Result (Unit {0}) Refusal) (n : ℕ) (new old s : List ℕ) → (suc n ≡ number_or_0 v) × (s ≡ after v new old) → s ≡ old
numbered (Ok tt) n new old s p = absurd (omega (arith, p.0))
numbered (Err r) n new old s p = p.1

-- ---- a run of operations, of which none was carried out

-- where an operation is carried out, the rest counts one more; where it is not, the count stays
on_changed_lem : (a : Result QueueFile Refusal) (img : List ℕ) (k : ℕ) (next : QueueFile → List ℕ → Run) →
    ((q : QueueFile) (img' : List ℕ) → k + 1 ≤ (next q img').0) → k ≤ (on_changed a img k next).0
on_changed_lem (Ok q) img k next more = let h = more q img in omega (arith, h)
on_changed_lem (Err r) img k next more = omega arith

on_peeked_lem : (a : Result (Option ℕ) Refusal) (out : List ℕ) (k : ℕ) (next : List ℕ → Run) → ((out' : List ℕ) → k + 1 ≤ (next out').0) →
    k ≤ (on_peeked a out k next).0
on_peeked_lem (Ok (Some n)) out k next more = let h = more out in omega (arith, h)
on_peeked_lem (Ok None) out k next more = omega arith
on_peeked_lem (Err r) out k next more = omega arith

on_stepped_lem : (a : Result (Option Step) Refusal) (out : List ℕ) (k : ℕ) (next : Cursor → List ℕ → Run) →
    ((c : Cursor) (out' : List ℕ) → k + 1 ≤ (next c out').0) → k ≤ (on_stepped a out k next).0
on_stepped_lem (Ok (Some t)) out k next more = let h = more t.next out in omega (arith, h)
on_stepped_lem (Ok None) out k next more = omega arith
on_stepped_lem (Err r) out k next more = omega arith

-- so a run has at least what it starts from
run_counts : (op : QueueFile → List ℕ → Result QueueFile Refusal × List ℕ) (left k : ℕ) (q : QueueFile) (img : List ℕ) → k ≤ (run_from op left k q img).0
unfolding run_from
run_counts op zero k q img = omega arith
run_counts op (suc left) k q img = on_changed_lem (op q img).0 (op q img).1 k (run_from op left (k + 1)) (run_counts op left (k + 1))

-- if none was, the first was refused, and a refused one keeps the image
run_keeps : (op : QueueFile → List ℕ → Result QueueFile Refusal × List ℕ) → ((q : QueueFile) (img : List ℕ) → Kept img (op q img)) →
    (n : ℕ) (q : QueueFile) (img s : List ℕ) → ◌≡◌ {A = Run} (0, s) (run_from op n 0 q img) → s ≡ img
unfolding run_from
run_keeps op k zero q img s p = ap (λ (a : Run). a.1) p
run_keeps op k (suc n) q img s p = on (op q img).0 refl p
  where
    on : (a : Result QueueFile Refusal) → a ≡ (op q img).0 → ◌≡◌ {A = Run} (0, s) (on_changed a (op q img).1 0 (run_from op n 1)) → s ≡ img
    on (Ok q') e p' =
        let h = run_counts op n 1 q' (op q img).1 in
        let z : 0 ≡ (run_from op n 1 q' (op q img).1).0 = ap (λ (a : Run). a.0) p' in
        absurd (omega (arith, h, z))
    on (Err r) e p' =
        ap (λ (a : Run). a.1) p' ∙ k q img (op q img).1 r (ap (λ (a : Result QueueFile Refusal). (a, (op q img).1)) (sym e))

peeks_count : (q : QueueFile) (img : List ℕ) (left k : ℕ) (out : List ℕ) → k ≤ (peeks_from q img left k out).0
unfolding peeks_from
peeks_count q img zero k out = omega arith
peeks_count q img (suc left) k out =
    on_peeked_lem (judge_peek q img (length out)) (output_peeked q img out) k (peeks_from q img left (k + 1)) (peeks_count q img left (k + 1))

peeks_keep : (q : QueueFile) (img : List ℕ) (n : ℕ) (out s : List ℕ) → ◌≡◌ {A = Run} (0, s) (peeks_from q img n 0 out) → s ≡ out
unfolding peeks_from
peeks_keep q img zero out s p = ap (λ (a : Run). a.1) p
peeks_keep q img (suc n) out s p = on (judge_peek q img (length out)) p
  where
    on : (a : Result (Option ℕ) Refusal) → ◌≡◌ {A = Run} (0, s) (on_peeked a (peeked_output a (payload_at img q.file_len q.first) out) 0 (peeks_from q img n 1)) → s ≡ out
    on (Ok (Some m)) p' =
        let h = peeks_count q img n 1 (put_at out 0 (payload_at img q.file_len q.first)) in
        let z = ap (λ (a : Run). a.0) p' in
        absurd (omega (arith, h, z))
    on (Ok None) p' = ap (λ (a : Run). a.1) p'
    on (Err r) p' = ap (λ (a : Run). a.1) p'

steps_count : (q : QueueFile) (img : List ℕ) (left k : ℕ) (c : Cursor) (out : List ℕ) → k ≤ (steps_from q img left k c out).0
unfolding steps_from
steps_count q img zero k c out = omega arith
steps_count q img (suc left) k c out =
    on_stepped_lem (judge_step q img c (length out)) (output_stepped q img c out) k (steps_from q img left (k + 1)) (steps_count q img left (k + 1))

steps_keep : (q : QueueFile) (img : List ℕ) (n : ℕ) (c : Cursor) (out s : List ℕ) → ◌≡◌ {A = Run} (0, s) (steps_from q img n 0 c out) → s ≡ out
unfolding steps_from
steps_keep q img zero c out s p = ap (λ (a : Run). a.1) p
steps_keep q img (suc n) c out s p = on (judge_step q img c (length out)) p
  where
    on : (a : Result (Option Step) Refusal) → ◌≡◌ {A = Run} (0, s) (on_stepped a (stepped_output a img q.file_len out) 0 (steps_from q img n 1)) → s ≡ out
    on (Ok (Some t)) p' =
        let h = steps_count q img n 1 t.next (stepped_output (Ok (Some t)) img q.file_len out) in
        let z = ap (λ (a : Run). a.0) p' in
        absurd (omega (arith, h, z))
    on (Ok None) p' = ap (λ (a : Run). a.1) p'
    on (Err r) p' = ap (λ (a : Run). a.1) p'

opened_keeps : (o : Result QueueFile Refusal) (bytes s : List ℕ) (next : QueueFile → Run) → ((q : QueueFile) → ◌≡◌ {A = Run} (0, s) (next q) → s ≡ bytes) →
    ◌≡◌ {A = Run} (0, s) (on_opened o bytes next) → s ≡ bytes
opened_keeps (Ok q) bytes s next k p = k q p
opened_keeps (Err r) bytes s next k p = ap (λ (a : Run). a.1) p

runs_keep : (op : QueueFile → List ℕ → Result QueueFile Refusal × List ℕ) → ((q : QueueFile) (img : List ℕ) → Kept img (op q img)) →
    (n real : ℕ) (img s : List ℕ) → ◌≡◌ {A = Run} (0, s) (run_of op n real img) → s ≡ img
runs_keep op k n real img s = opened_keeps (opened img real) img s (λ q. run_from op n 0 q img) (λ q. run_keeps op k n q img s)

-- ---- the theorem

pub refusals_change_nothing : RefusalsChangeNothing
refusals_change_nothing =
    record {
      script::parse_bytes = λ word out x s p. bytes_keep word out s (sym p);
      ring::read_at = λ image file_len logical_pos buf x s p. p.1;
      «ring::relocate» = λ image orig_file_len moved_count x s p. p.1;
      ring::write_at = λ image file_len logical_pos buf x s p. p.1;
      ring::erase_at = λ image file_len logical_pos len x s p. p.1;
      queue::QueueFile::peek_into = λ self image out x s p. p.1;
      «queue::QueueFile::step» = λ self image cursor out x s p. p.1;
      the-cursor = λ cursor x. refl;
      «queue::Iter::next» = λ self out x s p. next_keeps self out x s p.0 p.1;
      the-reader = reader_stays;
      «writing::fresh» = λ image file_len settings x s p. fresh_keeps file_len settings image s x (sym p);
      «writing::commit» = λ q image x s p. commit_keeps q image s x (sym p);
      «writing::add» = λ q image payload x s p. add_keeps q payload image s x (sym p);
      writing::remove_n = λ q image n x s p. remove_keeps q n image s x (sym p);
      «writing::clear» = λ q image x s p. clear_keeps q image s x (sym p);
      writing::expand_if_necessary = λ q image data_len x s p. expand_keeps q data_len image s x (sym p);
      exports::port_ring_read = λ image file_len logical_pos buf n s p. numbered (judge_ring 8192 (length image) file_len) n _ buf s p;
      exports::port_ring_write = λ image file_len logical_pos buf n s p. numbered (judge_ring 8192 (length image) file_len) n _ image s p;
      exports::port_ring_erase = λ image file_len logical_pos len n s p. numbered (judge_ring 8192 (length image) file_len) n _ image s p;
      exports::port_relocate =
          λ image orig_file_len moved_count n s p.
          numbered (judge_relocation 8192 (length image) orig_file_len moved_count) n _ image s p;
      exports::port_add = λ image real_len payload n x s. runs_keep (λ q. add_of q payload) (λ q. add_keeps q payload) n real_len image s;
      exports::port_remove = λ image real_len n x s. runs_keep (λ q. remove_of q 1) (λ q. remove_keeps q 1) n real_len image s;
      exports::port_clear = λ image real_len n x s. runs_keep clear_of clear_keeps n real_len image s;
      exports::port_peek =
          λ image real_len out n x s.
          opened_keeps (opened image real_len) out s (λ q. peeks_from q image n 0 out) (λ q. peeks_keep q image n out s);
      exports::port_iterate =
          λ image real_len out n x s.
          opened_keeps (opened image real_len) out s (λ q. steps_from q image n 0 (start_of q) out) (λ q. steps_keep q image n (start_of q) out s);
    }
