-- No beginning of a writing is one. Assumes nothing.
use Rattle.std.proofs.Common.{◌≡◌, ◌++◌, sym, ap, ◌∙◌, subst, append-nil}
use Rattle.wire.specs.Standing.{at, start_of}
use Rattle.wire.specs.Records.{PayloadAt}
use Rattle.wire.proofs.Stands.{independent}
use Rattle.meaning.specs.Laws.{FrontFree}
use Rattle.meaning.proofs.Unique.{unique}

pub front-free : FrontFree
front-free w r v v' q q' more whole ends short stops =
    let x = independent v' (start_of w) q' short in
    let all : w ≡ x.written = x.before ∙ ap (λ l. x.written ++ l) stops ∙ append-nil x.written in
    let there : PayloadAt v' (start_of (w ++ r)) (at r q') = subst (λ l. PayloadAt v' (start_of (l ++ r)) (at r q')) (sym all) (x.anywhere r) in
    let same = unique (w ++ r) q (at r q') v v' whole there in
    more (sym (ap (λ s. s.bytes) same.1) ∙ ends)
