mod Division
