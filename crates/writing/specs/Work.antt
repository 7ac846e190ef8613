-- What a call that changes a queue works on, and what it answers: a step takes state and image and gives both as they are after it, and
-- an operation is its steps one after the other. Assumes nothing.
use Rattle.std.specs.Prelude.{ℕ, List, Result, Ok, Err}
use Rattle.refusal.specs.declared.Refusal.{Refusal}
use Rattle.format.specs.declared.state.V2Format.{V2Format}
use Rattle.queue.specs.declared.element.Element.{Element}
use Rattle.queue.specs.declared.state.QueueFile.{QueueFile}

-- the state and the image
abbrev pub Work : Type 0
Work = QueueFile × List ℕ

-- ---- answers

-- once all steps are done
abbrev pub done : Work → Result QueueFile Refusal × List ℕ
done w = (Ok w.0, w.1)

-- a refusal leaves the image as it was
abbrev pub kept : List ℕ → Refusal → Result QueueFile Refusal × List ℕ
kept img r = (Err r, img)

-- ---- the state with something in it changed

abbrev pub with_format : QueueFile → V2Format → QueueFile
with_format q f =
    record {
      file_len = q.file_len;
      real_len = q.real_len;
      format = f;
      elem_cnt = q.elem_cnt;
      first = q.first;
      last = q.last;
      settings = q.settings;
    }

-- both lengths
abbrev pub with_length : QueueFile → ℕ → QueueFile
with_length q n =
    record {
      file_len = n;
      real_len = n;
      format = q.format;
      elem_cnt = q.elem_cnt;
      first = q.first;
      last = q.last;
      settings = q.settings;
    }

-- the count and both ends
abbrev pub with_elements : QueueFile → ℕ → Element → Element → QueueFile
with_elements q n first last =
    record {
      file_len = q.file_len;
      real_len = q.real_len;
      format = q.format;
      elem_cnt = n;
      first = first;
      last = last;
      settings = q.settings;
    }
