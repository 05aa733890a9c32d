-- A call is left (document 02, wish 4): what the frame saver answers and leaves. Assumes nothing.
use Rattle.std.specs.Prelude.{ℕ, cond, List, ltb, set}
use Rattle.area.specs.Area.{put_in, put_back, top_of}
use Rattle.std.specs.declared.result.Result.TheVariants.{Ok, Err}
use Rattle.saver.specs.declared.SaverRefusal.TheVariants.{Registers, Nothing}
use Rattle.saver.specs.Saver.{Saver, saver, regs_of, in_use, Ends, ends}
use Rattle.std.specs.declared.option.Option.{Option}
use Rattle.std.specs.declared.option.Option.TheVariants.{Some, None}
use Rattle.area.specs.declared.Entry.{Entry}

-- how a call ends
pub data Back : Type 0 where
  returned : ℕ → Back
  thrown : Back

-- it ends with a result or without
abbrev pub back_of : Option ℕ → Back
back_of (Some v) = returned v
back_of None = thrown

-- a return writes the result, if there is a result register in the file; an exception writes nothing more
abbrev pub result_written : ℕ → ℕ → Back → List ℕ → List ℕ
result_written regs q (returned v) file = put_in regs q v file
result_written regs q thrown file = file

-- what stands from base on is put back, and its words are free again
unfoldable pub left_by : Saver → Back → Option Entry → Ends
left_by s back None = ends s (Err Nothing)
left_by s back (Some e) =
    ends (saver (set s.head 1 e.base) s.area (result_written (regs_of s) e.res back (put_back (regs_of s) s.area e.base e.len s.file))) (Ok e.base)

-- left: 3, then 9 where nothing is saved
unfoldable pub leave_of : Saver → Back → Ends
leave_of s back = cond (ltb 64 (regs_of s)) (ends s (Err (Registers (regs_of s)))) (left_by s back (top_of (in_use s) s.area))
