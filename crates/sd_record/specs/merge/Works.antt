-- The merge of a feed, as a work over its text.
use Rattle.std.specs.Prelude.{ℕ, true, List, Result, Ok, Err, codes}
use Rattle.sd_io.specs.outside.Pieces.{piece_of}
use Rattle.sd_files.specs.declared.Status.TheVariants.{Done}
use Rattle.sd_files.specs.Answering.{InWrites, MayWrite}
use Rattle.sd_files.specs.work.Works.{InSteps, IsOutcome, Work}
use Rattle.sd_record.specs.merge.Feeds.{said}
use Rattle.sd_record.specs.merge.Growing.{Said, newly_settled, waiting}
use Rattle.sd_record.specs.merge.Lines.{text_of_lines}
use Rattle.sd_record.specs.merge.Reasons.{reason}
use Rattle.sd_record.specs.declared.merge.feed.FeedFault.{FeedFault}

-- what a line says, or the words that say why it is refused
abbrev pub in_words : Result Said FeedFault → Result Said (List ℕ)
in_words (Ok s) = Ok s
in_words (Err fault) = Err (reason fault)

-- For each line of the feed the lines of logs are written that it has settled, and at its end those that wait: the logs have ended. It may end after any line.
abbrev pub merge_work : (count : ℕ) → Work Said
merge_work count =
    record {
      name = codes "feed";
      says = λ taken line. in_words (said count taken line);
      ends = λ s. true;
      bytes = λ taken s. text_of_lines (newly_settled count taken s);
      last_pieces = λ taken. piece_of (text_of_lines (waiting count taken));
      last_status = λ taken. Done;
    }

-- what may be written for a feed of this many logs: for each of its lines by one write, and so for its end
abbrev pub IsMerging : (count : ℕ) → (feed : List ℕ) → MayWrite
IsMerging count feed = InWrites (InSteps (merge_work count) feed) (IsOutcome (merge_work count) feed)
